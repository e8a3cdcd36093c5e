-- `check_shape::Bounds::hold` meets its contract: the tests are the definition's.
use mathlib.Core.Path.{refl}
use Rattle.check_shape.specs.Rows.{holds}
use Rattle.check_shape.proofs.Bounds.hold.Goals as goal

pub returns : goal.returns
unfolding holds
returns c = refl
