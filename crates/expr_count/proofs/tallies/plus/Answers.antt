-- `expr_count::tallies::plus` meets its contract: each part is a sum that is cut off.
use mathlib.Core.Path.{refl}
use Rattle.expr_count.proofs.TallyLaws.{tally-path}
use Rattle.expr_count.specs.Tally.{plus, capped}
use Rattle.expr_count.proofs.tallies.plus.Goals as goal

pub returns : goal.returns
unfolding plus capped
returns c =
    tally-path c.add.ensures c.add-2.ensures refl
