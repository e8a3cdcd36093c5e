-- One law for each rule.
use Rattle.std.proofs.Common.{◌∙◌}
use Rattle.expr_emit.proofs.WaySays.{way-make, way-pointer, way-lowerable, way-eval, way-kept}
use Rattle.expr_emit.proofs.calls.way_of.Goals as goal

pub returns-in-FnPtr : goal.returns-in-FnPtr
returns-in-FnPtr c = λ _. way-make _ _ _ c.call_rule.ensures c.in-FnPtr.is

pub returns-in-FnPtrCall : goal.returns-in-FnPtrCall
returns-in-FnPtrCall c = λ _. way-pointer _ _ _ c.call_rule.ensures c.in-FnPtrCall.is

pub returns-in-Lowerable : goal.returns-in-Lowerable
returns-in-Lowerable c = λ h.
    c.way_lowered.ensures h
    ∙ way-lowerable _ _ _ c.call_rule.ensures c.in-Lowerable.is

pub returns-in-Eval : goal.returns-in-Eval
returns-in-Eval c = λ _. way-eval _ _ _ c.call_rule.ensures c.in-Eval.is

pub returns-in-Residual : goal.returns-in-Residual
returns-in-Residual c = λ _. way-kept _ _ _ c.call_rule.ensures c.in-Residual.is
