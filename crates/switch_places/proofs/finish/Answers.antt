-- `switch_places::finish` meets its contract.
use Rattle.switch_places.proofs.SmallLaws.{finish-within, finished}
use Rattle.switch_places.proofs.finish.Goals as goal

pub returns : goal.returns
returns c =
    record {
      within = finish-within _ _ _ _ _ _ _ c.put.ensures c.put-2.ensures c.put-3.ensures;
      finished = finished _ _ _ _ _ _ _ c.put.ensures c.put-2.ensures c.put-3.ensures _ _ _ c.default_at-default.ensures
          c.fallback_at-fallback.ensures c.end_at.ensures c.args.table.now.whole;
    }
