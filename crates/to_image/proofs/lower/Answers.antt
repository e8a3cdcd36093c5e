-- `to_image::lower` meets its contract: refused by the check, or lowered.
use mathlib.Core.Path.{sym, ap, ◌∙◌}
use Rattle.std.proofs.lemmas.Result.{err_from_is_err_and}
use Rattle.checks.specs.Checked.{verdict_number}
use Rattle.to_image.proofs.AnswerLaws.{check-stays}
use Rattle.to_image.proofs.lower.Goals as goal

pub returns-in_err-check : goal.returns-in_err-check
returns-in_err-check c =
    let p = err_from_is_err_and c.from_residual.result c.from_residual.ensures.1 in
    rw (p.1, p.2) (check-stays _ _ _ _ c.check.ensures c.in_err-check.was)

pub returns : goal.returns
returns c = c.lower_accepted.ensures (ap verdict_number (sym c.check.ensures ∙ c.in_ok-check.was))
