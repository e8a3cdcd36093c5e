-- What the code reads of a link gives the definition's rule.
use Prim.Native.Nat.{ℕ}
use mathlib.Core.Path.{◌≡◌, sym, ◌∙◌}
use mathlib.Core.List.{List}
use Rattle.lowering.specs.Flatten.{step_rule}
use Rattle.expr_rules.specs.declared.chains.StepRule.{StepRule}
use Rattle.expr_rules.specs.declared.chains.Read.{Read}
use Rattle.expr_rules.specs.Inverse.{step_rule_from}
use Rattle.expr_rules.proofs.InverseLaws.{step_is}
use Rattle.expr_rules.specs.Reads.{Reads}

-- the definition's rule, by the variant that the code answers
pub rule_told : {s : List ℕ} {c : ℕ} {p : Read} {k : StepRule} → Reads s c p → p.rule ≡ k → step_rule_from k ≡ step_rule s c
rule_told {s} {c} {k = k} h e = step_is (step_rule s c) k (sym h.rule_is ∙ e)
