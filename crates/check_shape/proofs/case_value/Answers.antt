-- `check_shape::case_value` meets its contract: the test is the definition's.
use mathlib.Core.Path.{refl}
use Rattle.check_shape.specs.Kinds.{case_value}
use Rattle.check_shape.proofs.case_value.Goals as goal

pub returns : goal.returns
unfolding case_value
returns c = refl
