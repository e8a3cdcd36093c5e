-- `check_numbers::names_text` meets its contract: the tests are the definition's.
use mathlib.Core.Path.{refl}
use Rattle.check_numbers.specs.Numbers.{names_text}
use Rattle.check_numbers.proofs.names_text.Goals as goal

pub returns : goal.returns
unfolding names_text
returns c = refl
