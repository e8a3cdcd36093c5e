-- `expr_count::locals::Count::variable` meets its contract: a local or not.
use mathlib.Core.Path.{sym, ◌∙◌}
use Rattle.expr_count.specs.Locals.{answer}
use Rattle.expr_count.proofs.LocalLaws.{variable-local, variable-named}
use Rattle.expr_count.proofs.locals.Count.variable.Goals as goal

pub returns-then-is_local : goal.returns-then-is_local
returns-then-is_local c =
    let a = c.args in
    let it = a.self.now in
    variable-local (answer it.told it.sheet.now) it.sheet.now a.v (sym c.is_local.ensures ∙ c.if-is_local.true)

pub returns : goal.returns
returns c =
    let a = c.args in
    let it = a.self.now in
    variable-named (answer it.told it.sheet.now) it.sheet.now a.v (sym c.is_local.ensures ∙ c.if-is_local.false)
