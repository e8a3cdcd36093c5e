-- `needs::needs` meets its contract: refused by the check, or what an accepted sheet needs.
use mathlib.Core.Path.{sym, ap, ◌∙◌}
use Rattle.std.proofs.lemmas.Result.{err_from_is_err_and}
use Rattle.checks.specs.Checked.{verdict_number}
use Rattle.needs.proofs.NeedLaws.{refused-need}
use Rattle.needs.proofs.needs.Goals as goal

pub returns-in_err-check : goal.returns-in_err-check
returns-in_err-check c =
    let p = err_from_is_err_and c.from_residual.result c.from_residual.ensures.1 in
    rw (p.1, p.2) (sym (refused-need _ _ (sym c.check.ensures ∙ c.in_err-check.was)))

pub returns : goal.returns
returns c = c.need_of.ensures (ap verdict_number (sym c.check.ensures ∙ c.in_ok-check.was))
