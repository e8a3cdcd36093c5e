-- A chain as the sheet has it. `a.b[i]` is Dot of a and Index of b and i: at each chain node (Dot or Index) the first child is what the
-- step before goes to, and the second is the rest. A link is a chain node on the way, and each link has one step.
use Rattle.std.specs.Prelude.{ℕ, zero, suc, ◌/◌, ◌%◌, Bool, true, false, ◌&&◌, ◌||◌, not, List, [], ◌∷◌, eqb}
use Rattle.sheet.specs.Node.{kind, field_a, child, next}
use Rattle.lowering.specs.Kinds.{property_kind, method_call_kind, dot_kind, index_kind}

abbrev pub is_chain : ℕ → Bool
is_chain k = eqb k dot_kind || eqb k index_kind

-- flags: 1 NEGATED, 2 BREAK
abbrev pub negated : List ℕ → ℕ → ℕ
negated s c = field_a s c % 2

abbrev pub breaks : List ℕ → ℕ → Bool
breaks s c = eqb (field_a s c / 2 % 2) 1

-- the rest behind link c
unfoldable pub rest_of : List ℕ → ℕ → ℕ
rest_of s c = next s (child c)

-- the rest is a link too
unfoldable pub goes_on : List ℕ → ℕ → Bool
goes_on s c = not (breaks s c) && is_chain (kind s (rest_of s c))

-- the node that the step of link c is taken with: the next link's first child, or the rest as a whole
unfoldable pub operand_of : List ℕ → ℕ → ℕ
operand_of s c = elim (goes_on s c) [ true ↦ child (rest_of s c) | false ↦ rest_of s c ]

-- the links from c on, at most n of them
unfoldable pub links : ℕ → List ℕ → ℕ → List ℕ
links zero s c = []
links (suc n) s c = c ∷ elim (goes_on s c) [ true ↦ links n s (rest_of s c) | false ↦ [] ]

-- what step a link has; a dot onto anything but a property or a method has none
pub data StepRule : Type 0 where
  index : StepRule
  property : StepRule
  method : StepRule
  none : StepRule

unfoldable pub dot_rule : ℕ → StepRule
dot_rule k = elim (eqb k property_kind) [ true ↦ property | false ↦ elim (eqb k method_call_kind) [ true ↦ method | false ↦ none ] ]

unfoldable pub step_rule : List ℕ → ℕ → StepRule
step_rule s c = elim (eqb (kind s c) index_kind) [ true ↦ index | false ↦ dot_rule (kind s (operand_of s c)) ]

unfoldable pub has_step : StepRule → Bool
has_step index = true
has_step property = true
has_step method = true
has_step none = false

-- `flatten_chain` takes all these links
unfoldable pub flattens : List ℕ → List ℕ → Bool
flattens s [] = true
flattens s (c ∷ cs) = elim (has_step (step_rule s c)) [ true ↦ flattens s cs | false ↦ false ]
