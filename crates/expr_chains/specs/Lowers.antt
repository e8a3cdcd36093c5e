-- Whether each step of a chain lowers. A chain whose links all have a step fails only at a method that does not lower.
use Rattle.std.specs.Prelude.{ℕ, Bool, true, false, List, [], ◌∷◌}
use Rattle.sheet.specs.Limits.{max_depth}
use Rattle.lowering.specs.Steps.{is_lowerable_method}
use Rattle.lowering.specs.Flatten as flatten
use Rattle.lowering.specs.Flatten.{operand_of, StepRule, index, property, method, step_rule, links}

unfoldable pub lowers_by : StepRule → List ℕ → ℕ → Bool
lowers_by index s c = true
lowers_by property s c = true
lowers_by method s c = is_lowerable_method s (operand_of s c)
lowers_by flatten.none s c = false

unfoldable pub step_lowers : List ℕ → ℕ → Bool
step_lowers s c = lowers_by (step_rule s c) s c

unfoldable pub all_lower : List ℕ → List ℕ → Bool
all_lower s [] = true
all_lower s (c ∷ cs) = elim (step_lowers s c) [ true ↦ all_lower s cs | false ↦ false ]

-- each step of the chain of node j
unfoldable pub lowers : List ℕ → ℕ → Bool
lowers s j = all_lower s (links max_depth s j)
