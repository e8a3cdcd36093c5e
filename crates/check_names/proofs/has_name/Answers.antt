-- `check_names::has_name` meets its contract: the tests are the definition's.
use mathlib.Core.Path.{refl}
use Rattle.check_names.specs.Names.{has_name}
use Rattle.check_names.proofs.has_name.Goals as goal

pub returns : goal.returns
unfolding has_name
returns c = refl
