-- `expr_count::locals::Count::first` meets its contract: one law for each role.
use mathlib.Core.Path.{sym, ap, ◌∙◌}
use native.Mathlib.Omega.{arith}
use Rattle.expr_rules.specs.Answers.{first_of}
use Rattle.expr_count.specs.Locals.{answer}
use Rattle.expr_count.proofs.LocalLaws.{first-this, first-variable, first-value}
use Rattle.expr_count.proofs.locals.Count.first.Goals as goal

pub returns-in-10 : goal.returns-in-10
returns-in-10 c =
    let a = c.args in
    let it = a.self.now in
    first-this (answer it.told it.sheet.now) it.sheet.now a.v (sym c.role.ensures ∙ c.in-10.is)

pub returns-in-9 : goal.returns-in-9
returns-in-9 c =
    let a = c.args in
    let it = a.self.now in
    c.variable.ensures
    ∙ ap first_of
    (sym (first-variable (answer it.told it.sheet.now) it.sheet.now a.v (sym c.role.ensures ∙ c.in-9.is)))

pub returns-in_default : goal.returns-in_default
returns-in_default c =
    let a = c.args in
    let it = a.self.now in
    first-value (answer it.told it.sheet.now) it.sheet.now a.v (λ e. omega arith) (λ e. omega arith)
