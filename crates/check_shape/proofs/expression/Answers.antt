-- `check_shape::expression` meets its contract: the test is the definition's.
use mathlib.Core.Path.{refl}
use Rattle.check_shape.specs.Kinds.{expression}
use Rattle.check_shape.proofs.expression.Goals as goal

pub returns : goal.returns
unfolding expression
returns c = refl
