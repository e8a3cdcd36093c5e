-- `expr_count::locals::Count::is_local` meets its contract, by what is told.
use mathlib.Core.Path.{sym, ap, ◌∙◌}
use Rattle.expr_count.specs.Locals.{answer}
use Rattle.expr_count.proofs.locals.Count.is_local.Goals as goal

pub returns-in-Sought : goal.returns-in-Sought
unfolding answer
returns-in-Sought c =
    let a = c.args in
    c.sought.ensures ∙ sym (ap (λ x. answer x a.self.now.sheet.now a.v) c.in-Sought.is)

pub returns-in-All : goal.returns-in-All
unfolding answer
returns-in-All c =
    let a = c.args in
    sym (ap (λ x. answer x a.self.now.sheet.now a.v) c.in-All.is)

pub returns-in-Nobody : goal.returns-in-Nobody
unfolding answer
returns-in-Nobody c =
    let a = c.args in
    sym (ap (λ x. answer x a.self.now.sheet.now a.v) c.in-Nobody.is)

pub returns-in-Told : goal.returns-in-Told
unfolding answer
returns-in-Told c =
    let a = c.args in
    c.told_by.ensures ∙ sym (ap (λ x. answer x a.self.now.sheet.now a.v) c.in-Told.is)
