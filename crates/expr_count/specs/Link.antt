-- What of a chain's link is counted: the operands of its step.
use Rattle.std.specs.Prelude.{ℕ, min, Bool, true, false, ◌&&◌, List, [], ◌∷◌, eqb}
use Rattle.sheet.specs.Node.{kind, child}
use Rattle.sheet.specs.Namespace.{role}
use Rattle.lowering.specs.Kinds.{variable_kind, this_kind, property_kind, dot_kind}
use Rattle.lowering.specs.Flatten.{rest_of, goes_on, operand_of, StepRule, index, property, method, none, step_rule}
use Rattle.lowering.specs.Steps.{is_lowerable_method}
use Rattle.expr_count.specs.declared.links.Link.{Link}
use Rattle.expr_chains.specs.declared.Distance.{Distance}
use Rattle.expr_chains.specs.declared.Distance.TheVariants as Distances
use Rattle.expr_count.specs.declared.links.Link.TheVariants.{Lowers, Fails, Nowhere}
use Rattle.expr_count.specs.Operands.{some_from, all}

-- a step's operands; a method that does not lower; no step at all
unfoldable pub link_by : StepRule → List ℕ → ℕ → Link
link_by index s x = Lowers (some_from 1 x)
link_by property s x = Lowers (some_from 0 x)
link_by method s x = elim (is_lowerable_method s x) [ true ↦ Lowers (all s x) | false ↦ Fails ]
link_by none s x = Nowhere

unfoldable pub link : List ℕ → ℕ → Link
link s c = link_by (step_rule s c) s (operand_of s c)

-- how far a chain comes with this link: it does not flatten; it fails; it lowers
unfoldable pub grade : Link → ℕ
grade (Lowers o) = 2
grade Fails = 1
grade Nowhere = 0

-- the code's answer by its number
unfoldable pub reach_number : Distance → ℕ
reach_number Distances.Nowhere = 0
reach_number Distances.TakenBack = 1
reach_number Distances.Whole = 2

-- how far a chain comes with all its links
unfoldable pub least : List ℕ → List ℕ → ℕ
least s [] = 2
least s (c ∷ cs) = min (grade (link s c)) (least s cs)

-- 1 for a root that is lowered
unfoldable pub temporary : List ℕ → ℕ → ℕ
temporary s v =
    elim (eqb (role s v) variable_kind) [ true ↦ 0 | false ↦ elim (eqb (role s v) this_kind) [ true ↦ 0 | false ↦ 1 ] ]

-- chain j is one Property of a variable or of `this`: no operand, and no root that is lowered
unfoldable pub is_plain : List ℕ → ℕ → Bool
is_plain s j =
    elim (goes_on s j) [
      | true ↦ false
      | false ↦ eqb (kind s j) dot_kind && eqb (kind s (rest_of s j)) property_kind && eqb (temporary s (child j)) 0
    ]
