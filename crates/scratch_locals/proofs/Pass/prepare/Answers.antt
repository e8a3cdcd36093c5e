-- `scratch_locals::Pass::prepare` meets its contract.
use Rattle.scratch_locals.proofs.SettleLaws.{prepares}
use Rattle.scratch_locals.proofs.Pass.prepare.Goals as goal

pub returns : goal.returns
returns c =
    prepares c.clear_index.ensures c.meet_all-n.auto.scratch c.tell_all.auto.scratch c.meet_all-n.ensures
    c.tell_all.ensures c.settle_all.ensures
