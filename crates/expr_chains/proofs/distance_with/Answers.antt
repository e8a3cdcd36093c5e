-- `expr_chains::distance_with` meets its contract: each arm is the definition's, by the rule that the link says.
use mathlib.Core.Path.{refl, sym, ap, ◌∙◌}
use Rattle.lowering.specs.Flatten.{has_step}
use Rattle.lowering.specs.Steps.{is_lowerable_method}
use Rattle.expr_rules.specs.Inverse.{step_rule_from}
use Rattle.expr_rules.proofs.ReadsLaws.{rule_told}
use Rattle.expr_chains.specs.Lowers.{lowers_by}
use Rattle.expr_chains.specs.Walked.{flattens_at, lowers_at}
use Rattle.expr_chains.proofs.WalkedLaws.{grades-by}
use Rattle.expr_chains.proofs.distance_with.Goals as goal

pub returns-in-Index : goal.returns-in-Index
unfolding step_rule_from has_step lowers_by flattens_at lowers_at
returns-in-Index c = λ k h. grades-by (rule_told h c.in-Index.is) refl refl

pub returns-in-Property : goal.returns-in-Property
unfolding step_rule_from has_step lowers_by flattens_at lowers_at
returns-in-Property c = λ k h. grades-by (rule_told h c.in-Property.is) refl refl

pub returns-in-Method : goal.returns-in-Method
unfolding step_rule_from has_step lowers_by flattens_at lowers_at
returns-in-Method c =
    let s = c.args.sheet.now in
    λ k h. grades-by (rule_told h c.in-Method.is) refl
    (sym c.if-is_lowerable_method.true ∙ c.is_lowerable_method.ensures ∙ ap (is_lowerable_method s) h.with_is)

pub returns-in-Method-2 : goal.returns-in-Method-2
unfolding step_rule_from has_step lowers_by flattens_at lowers_at
returns-in-Method-2 c =
    let s = c.args.sheet.now in
    λ k h. grades-by (rule_told h c.in-Method.is) refl
    (sym c.if-is_lowerable_method.false ∙ c.is_lowerable_method.ensures ∙ ap (is_lowerable_method s) h.with_is)

pub returns-in-Nothing : goal.returns-in-Nothing
unfolding step_rule_from has_step lowers_by flattens_at lowers_at
returns-in-Nothing c = λ k h. grades-by (rule_told h c.in-Nothing.is) refl refl
