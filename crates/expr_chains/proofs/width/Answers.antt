-- `expr_chains::width` meets its contract: each arm is the definition's, by the rule that the link says.
use mathlib.Core.Path.{◌≡◌, ap, ◌∙◌}
use borrow.Author.Rules.{rules}
use Prim.Native.Nat.{min}
use Rattle.sheet.specs.Node.{count}
use Rattle.lowering.specs.Limits.{max_args}
use Rattle.expr_rules.specs.Inverse.{step_rule_from}
use Rattle.expr_rules.proofs.ReadsLaws.{rule_told}
use Rattle.expr_chains.specs.Steps.{width_by, step_operands}
use Rattle.expr_chains.proofs.width.Goals as goal

pub returns-in-Index : goal.returns-in-Index
unfolding step_rule_from step_operands width_by
returns-in-Index c =
    let s = c.args.sheet.now in λ k h. ap (λ r. width_by r s k) (rule_told h c.in-Index.is)

pub returns-in-Property : goal.returns-in-Property
unfolding step_rule_from step_operands width_by
returns-in-Property c =
    let s = c.args.sheet.now in λ k h. ap (λ r. width_by r s k) (rule_told h c.in-Property.is)

pub returns-in-Method : goal.returns-in-Method
unfolding step_rule_from step_operands width_by
returns-in-Method c =
    let s = c.args.sheet.now in
    let cut : c.min.result ≡ min c.count.result max_args = search rules in
    λ k h. cut
    ∙ ap (λ n. min n max_args) (c.count.ensures ∙ ap (count s) h.with_is)
    ∙ ap (λ r. width_by r s k) (rule_told h c.in-Method.is)

pub returns-in-Nothing : goal.returns-in-Nothing
unfolding step_rule_from step_operands width_by
returns-in-Nothing c =
    let s = c.args.sheet.now in λ k h. ap (λ r. width_by r s k) (rule_told h c.in-Nothing.is)
