-- `switch_places::chained::laid` meets its contract.
use mathlib.Core.Path.{ap, ◌∙◌}
use lib.ListN.{set}
use Rattle.switch_places.proofs.LaidLaws.{laid_one}
use Rattle.switch_places.proofs.chained.laid.Goals as goal

pub returns : goal.returns
returns c =
    λ s t l R C small. laid_one R C small (c.chain_of-y.ensures s t l R) c.chain_of-y.new.table.whole c.put.ensures
    c.word.ensures (c.put-2.ensures ∙ ap (set _ c.args.exit) c.from.ensures) c.plus.ensures
