-- A chain has few operands, so the sum does not wrap.
use Rattle.expr_emit.proofs.StepDoes.{popped-is}
use Rattle.expr_emit.proofs.steps.popped.Goals as goal

pub returns : goal.returns
returns c =
    let a = c.args in
    λ e. popped-is a.sheet.now a.j a.n _ c.child.result e c.temporary.ensures c.child.ensures
