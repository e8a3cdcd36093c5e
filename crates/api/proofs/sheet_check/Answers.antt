-- `api::sheet_check` meets its contract: the number of the answer.
use Rattle.checks.specs.Checked.{verdict_number}
use mathlib.Core.Path.{ap, ◌∙◌}
use Rattle.api.proofs.sheet_check.Goals as goal

pub returns : goal.returns
returns c = c.number.ensures ∙ ap verdict_number c.check.ensures
