-- `expr_count::links::method` meets its contract: one law for each way.
use mathlib.Core.Path.{sym, ap, ◌∙◌}
use Rattle.expr_count.specs.declared.links.Link.TheVariants.{Lowers}
use Rattle.expr_count.proofs.PlanLaws.{method-lowers, method-fails}
use Rattle.expr_count.proofs.links.method.Goals as goal

pub returns-then-is_lowerable_method : goal.returns-then-is_lowerable_method
returns-then-is_lowerable_method c =
    let a = c.args in
    ap Lowers c.of.ensures
    ∙ method-lowers a.sheet.now a.x (sym c.is_lowerable_method.ensures ∙ c.if-is_lowerable_method.true)

pub returns : goal.returns
returns c =
    let a = c.args in
    method-fails a.sheet.now a.x (sym c.is_lowerable_method.ensures ∙ c.if-is_lowerable_method.false)
