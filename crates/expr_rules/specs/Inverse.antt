-- The rule that an answer of the code stands for: the way back from the code's enums to the definition's rules.
use Rattle.lowering.specs.Flatten as Flatten
use Rattle.expr_rules.specs.declared.chains.StepRule as StepRules

unfoldable pub step_rule_from : StepRules.StepRule → Flatten.StepRule
step_rule_from StepRules.TheVariants.Index = Flatten.index
step_rule_from StepRules.TheVariants.Property = Flatten.property
step_rule_from StepRules.TheVariants.Method = Flatten.method
step_rule_from StepRules.TheVariants.Nothing = Flatten.none
