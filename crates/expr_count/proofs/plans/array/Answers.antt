-- `expr_count::plans::array` meets its contract: one law for each way.
use mathlib.Core.Path.{ap, ◌∙◌}
use Rattle.expr_count.specs.Plan.{alone}
use Rattle.expr_count.proofs.AnswerLaws.{array-lowers, array-stays}
use Rattle.expr_count.proofs.plans.array.Goals as goal

pub returns-then-count-le-MAX_ELEMENTS : goal.returns-then-count-le-MAX_ELEMENTS
returns-then-count-le-MAX_ELEMENTS c =
    let a = c.args in
    c.operands.ensures ∙ array-lowers a.sheet.now a.j c.count.ensures c.if-count-le-MAX_ELEMENTS.true

pub returns : goal.returns
returns c =
    let a = c.args in
    c.alone.ensures ∙ ap alone c.instructions.ensures ∙ array-stays a.sheet.now a.j c.count.ensures c.if-count-le-MAX_ELEMENTS.false
