-- `image_check::check_image` meets its contract: refused by the sheet's check, or judged.
use mathlib.Core.Path.{sym, ◌∙◌}
use Rattle.std.proofs.lemmas.Result.{err_from_is_err_and}
use Rattle.image_check.proofs.AnswerLaws.{ends-sheet}
use Rattle.image_check.proofs.check_image.Goals as goal

pub returns-in_err-check : goal.returns-in_err-check
returns-in_err-check c =
    let p = err_from_is_err_and c.from_residual.result c.from_residual.ensures.1 in
    rw (p.1, p.2) (ends-sheet _ _ _ _ c.check.ensures c.in_err-check.was)

pub returns : goal.returns
returns c = c.judge.ensures (sym c.check.ensures ∙ c.in_ok-check.was)
