-- `expr_count::locals::Count::plan` meets its contract, rule by rule.
use mathlib.Core.Path.{sym, ap, ◌∙◌}
use mathlib.Core.Logic.{inl, inr}
use Rattle.expr_rules.proofs.InverseLaws.{rule_from}
use Rattle.expr_count.proofs.PlanLaws.{plan-at}
use Rattle.expr_count.specs.Locals.{answer}
use Rattle.expr_count.specs.Plan.{alone, interpolated, short_circuit, plan_by}
use Rattle.expr_count.proofs.locals.Count.plan.Goals as goal

pub returns-in-Interpolated : goal.returns-in-Interpolated
unfolding plan_by interpolated rule_from
returns-in-Interpolated c =
    let a = c.args in
    let it = a.self.now in
    c.operands.ensures ∙ plan-at it.sheet.now a.j (answer it.told it.sheet.now) _ (sym c.rule.ensures ∙ c.in-Interpolated.is)

pub returns-in-Array : goal.returns-in-Array
unfolding plan_by rule_from
returns-in-Array c =
    let a = c.args in
    let it = a.self.now in
    c.array.ensures ∙ plan-at it.sheet.now a.j (answer it.told it.sheet.now) _ (sym c.rule.ensures ∙ c.in-Array.is)

pub returns-in-FnCall : goal.returns-in-FnCall
unfolding plan_by rule_from
returns-in-FnCall c =
    let a = c.args in
    let it = a.self.now in
    c.fn_call.ensures ∙ plan-at it.sheet.now a.j (answer it.told it.sheet.now) _ (sym c.rule.ensures ∙ c.in-FnCall.is)

pub returns-in-Chain : goal.returns-in-Chain
unfolding plan_by rule_from
returns-in-Chain c =
    let a = c.args in
    let it = a.self.now in
    plan-at it.sheet.now a.j (answer it.told it.sheet.now) _ (sym c.rule.ensures ∙ c.in-Chain.is)

pub returns-in-Coalesce : goal.returns-in-Coalesce
unfolding plan_by rule_from
returns-in-Coalesce c =
    let a = c.args in
    let it = a.self.now in
    plan-at it.sheet.now a.j (answer it.told it.sheet.now) _ (sym c.rule.ensures ∙ c.in-Coalesce.is)

pub returns-in-And : goal.returns-in-And
unfolding plan_by short_circuit rule_from
returns-in-And c =
    let a = c.args in
    let it = a.self.now in
    let at = plan-at it.sheet.now a.j (answer it.told it.sheet.now) in
    c.operands-in-And.ensures ∙ elim c.in-And.is [
      | inl e ↦ at _ (sym c.rule.ensures ∙ e)
      | inr e ↦ at _ (sym c.rule.ensures ∙ e)
    ]

pub returns-in-Boolean : goal.returns-in-Boolean
unfolding plan_by rule_from
returns-in-Boolean c =
    let a = c.args in
    let it = a.self.now in
    let at = plan-at it.sheet.now a.j (answer it.told it.sheet.now) in
    c.alone.ensures ∙ ap alone c.instructions.ensures ∙ elim c.in-Boolean.is [
      | inl e ↦ at _ (sym c.rule.ensures ∙ e)
      | inr (inl e) ↦ at _ (sym c.rule.ensures ∙ e)
      | inr (inr (inl e)) ↦ at _ (sym c.rule.ensures ∙ e)
      | inr (inr (inr (inl e))) ↦ at _ (sym c.rule.ensures ∙ e)
      | inr (inr (inr (inr (inl e)))) ↦ at _ (sym c.rule.ensures ∙ e)
      | inr (inr (inr (inr (inr e)))) ↦ at _ (sym c.rule.ensures ∙ e)
    ]
