-- `expr_count::plans::is_leaf` meets its contract: the tests are those of the definition.
use mathlib.Core.Path.{refl}
use Rattle.expr_count.specs.Plan.{is_leaf}
use Rattle.expr_count.proofs.plans.is_leaf.Goals as goal

pub returns : goal.returns
unfolding is_leaf
returns c = refl
