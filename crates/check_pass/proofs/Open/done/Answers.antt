-- `check_pass::Open::done` meets its contract: the tests are the definition's.
use mathlib.Core.Path.{refl}
use Rattle.check_pass.specs.Levels.{done}
use Rattle.check_pass.proofs.Open.done.Goals as goal

pub returns : goal.returns
unfolding done
returns c = refl
