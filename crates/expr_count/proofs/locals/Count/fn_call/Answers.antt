-- `expr_count::locals::Count::fn_call` meets its contract, rule by rule.
use mathlib.Core.Path.{ap, sym, ◌∙◌}
use Rattle.expr_rules.proofs.InverseLaws.{call_rule_from}
use Rattle.expr_count.proofs.PlanLaws.{fn-call-at}
use Rattle.expr_count.specs.Locals.{answer}
use Rattle.expr_count.specs.Operands.{some_from}
use Rattle.expr_count.specs.Plan.{parts, alone, make_fn_ptr, all_args, fn_call_by}
use Rattle.expr_count.proofs.locals.Count.fn_call.Goals as goal

pub returns-in-FnPtr : goal.returns-in-FnPtr
unfolding fn_call_by make_fn_ptr call_rule_from
returns-in-FnPtr c =
    let a = c.args in
    let it = a.self.now in
    c.parts.ensures ∙ ap (λ from. parts 0 (some_from 1 from) 1) c.child.ensures
    ∙ fn-call-at it.sheet.now a.j (answer it.told it.sheet.now) _ (sym c.call_rule.ensures ∙ c.in-FnPtr.is)

pub returns-in-FnPtrCall : goal.returns-in-FnPtrCall
unfolding fn_call_by all_args call_rule_from
returns-in-FnPtrCall c =
    let a = c.args in
    let it = a.self.now in
    c.operands.ensures ∙ fn-call-at it.sheet.now a.j (answer it.told it.sheet.now) _
    (sym c.call_rule.ensures ∙ c.in-FnPtrCall.is)

pub returns-in-Lowerable : goal.returns-in-Lowerable
unfolding fn_call_by call_rule_from
returns-in-Lowerable c =
    let a = c.args in
    let it = a.self.now in
    c.call.ensures ∙ fn-call-at it.sheet.now a.j (answer it.told it.sheet.now) _
    (sym c.call_rule.ensures ∙ c.in-Lowerable.is)

pub returns-in-Eval : goal.returns-in-Eval
unfolding fn_call_by call_rule_from
returns-in-Eval c =
    let a = c.args in
    let it = a.self.now in
    c.alone.ensures
    ∙ ap alone c.evaluation.ensures
    ∙ fn-call-at it.sheet.now a.j (answer it.told it.sheet.now) _
    (sym c.call_rule.ensures ∙ c.in-Eval.is)

pub returns-in-Residual : goal.returns-in-Residual
unfolding fn_call_by call_rule_from
returns-in-Residual c =
    let a = c.args in
    let it = a.self.now in
    c.alone-in-Residual.ensures ∙ ap alone c.instructions.ensures ∙ fn-call-at it.sheet.now a.j (answer it.told it.sheet.now) _
    (sym c.call_rule.ensures ∙ c.in-Residual.is)
