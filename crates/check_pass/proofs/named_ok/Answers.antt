-- `check_pass::named_ok` meets its contract.
use mathlib.Core.Path.{ap, ◌∙◌}
use mathlib.Core.Bool.{not}
use Rattle.text.specs.Keyword.{is_curry}
use Rattle.check_pass.proofs.named_ok.Goals as goal

pub returns : goal.returns
returns c = ap not (c.is_curry.ensures ∙ ap is_curry c.text.ensures)
