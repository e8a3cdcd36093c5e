-- `expr_chains::step_of` meets its contract: each arm is the definition's, by the rule that the link says.
use mathlib.Core.Path.{ap, ap₂, ◌∙◌}
use Rattle.sheet.specs.Node.{count, position}
use Rattle.sheet.specs.Start.{start_of}
use Rattle.bytecode.specs.declared.Step.TheVariants.{Property}
use Rattle.expr_rules.specs.Inverse.{step_rule_from}
use Rattle.expr_rules.proofs.ReadsLaws.{rule_told}
use Rattle.expr_chains.proofs.FieldLaws.{index-by, method-by}
use Rattle.expr_chains.specs.Steps.{step_with}
use Rattle.expr_chains.proofs.step_of.Goals as goal

pub returns-in-Index : goal.returns-in-Index
unfolding step_rule_from step_with
returns-in-Index c =
    let a = c.args in
    let s = a.sheet.now in
    λ h. index-by a.n h.flag_is (c.start_of.ensures ∙ ap (start_of s) h.with_is) c.position.ensures
    ∙ ap (λ r. step_with r s a.p.link a.n a.name a.getter a.setter) (rule_told h c.in-Index.is)

pub returns-in-Property : goal.returns-in-Property
unfolding step_rule_from step_with
returns-in-Property c =
    let a = c.args in
    let s = a.sheet.now in
    λ h. ap₂ (Property a.name a.getter a.setter) h.flag_is (c.position-in-Property.ensures ∙ ap (position s) h.with_is)
    ∙ ap (λ r. step_with r s a.p.link a.n a.name a.getter a.setter) (rule_told h c.in-Property.is)

pub returns-in-Method : goal.returns-in-Method
unfolding step_rule_from step_with
returns-in-Method c =
    let a = c.args in
    let s = a.sheet.now in
    λ h. method-by a.name a.n (c.count.ensures ∙ ap (count s) h.with_is) h.flag_is
    (c.position-in-Method.ensures ∙ ap (position s) h.with_is)
    ∙ ap (λ r. step_with r s a.p.link a.n a.name a.getter a.setter) (rule_told h c.in-Method.is)

pub returns-in-Nothing : goal.returns-in-Nothing
unfolding step_rule_from step_with
returns-in-Nothing c =
    let a = c.args in
    let s = a.sheet.now in
    λ h. ap (λ r. step_with r s a.p.link a.n a.name a.getter a.setter) (rule_told h c.in-Nothing.is)
