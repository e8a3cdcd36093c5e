-- `expr_count::links::link_with` meets its contract, rule by rule.
use mathlib.Core.Path.{ap, sym, ◌∙◌}
use Rattle.lowering.specs.Flatten.{method}
use Rattle.expr_count.specs.declared.links.Link.TheVariants.{Lowers}
use Rattle.expr_count.specs.Operands.{some_from}
use Rattle.expr_rules.specs.Inverse.{step_rule_from}
use Rattle.expr_count.proofs.PlanLaws.{link_at}
use Rattle.expr_count.specs.Link.{link_by}
use Rattle.expr_count.proofs.links.link_with.Goals as goal

pub returns-in-Index : goal.returns-in-Index
unfolding link_by step_rule_from
returns-in-Index c =
    λ k h. ap (λ x. Lowers (some_from 1 x)) h.with_is
    ∙ link_at c.args.sheet.now k _ (sym h.rule_is ∙ c.in-Index.is)

pub returns-in-Property : goal.returns-in-Property
unfolding link_by step_rule_from
returns-in-Property c =
    λ k h. ap (λ x. Lowers (some_from 0 x)) h.with_is
    ∙ link_at c.args.sheet.now k _ (sym h.rule_is ∙ c.in-Property.is)

pub returns-in-Method : goal.returns-in-Method
unfolding step_rule_from
returns-in-Method c =
    let s = c.args.sheet.now in
    λ k h. c.method.ensures ∙ ap (link_by method s) h.with_is ∙ link_at s k _ (sym h.rule_is ∙ c.in-Method.is)

pub returns-in-Nothing : goal.returns-in-Nothing
unfolding link_by step_rule_from
returns-in-Nothing c =
    λ k h. link_at c.args.sheet.now k _ (sym h.rule_is ∙ c.in-Nothing.is)
