-- `check_shape::scalar` meets its contract: the test is the definition's.
use mathlib.Core.Path.{refl}
use Rattle.check_shape.specs.Kinds.{scalar}
use Rattle.check_shape.proofs.scalar.Goals as goal

pub returns : goal.returns
unfolding scalar
returns c = refl
