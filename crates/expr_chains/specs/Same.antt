-- Whether the chains of two nodes are equal, by the sheet alone: names by their bytes, everything else by numbers. Operand numbers need no
-- test: they agree where the steps before do.
use Rattle.std.specs.Prelude.{ℕ, ◌≡◌, Bool, true, false, ◌&&◌, ◌||◌, List, [], ◌∷◌, eqb}
use Rattle.std.proofs.Math.Option.{Option, none, some}
use Rattle.text.specs.Same.{same}
use Rattle.sheet.specs.Limits.{max_depth}
use Rattle.sheet.specs.Node.{count, field_a, field_b, field_c, position, child}
use Rattle.sheet.specs.Start.{start_of}
use Rattle.sheet.specs.Text.{text}
use Rattle.sheet.specs.Namespace.{role}
use Rattle.lowering.specs.Kinds.{variable_kind, this_kind}
use Rattle.lowering.specs.Slots.{resolve}
use Rattle.lowering.specs.Flatten as flatten
use Rattle.lowering.specs.Flatten.{negated, operand_of, StepRule, index, property, method, step_rule, links}

-- texts a and b have the same bytes
unfoldable pub same_text : List ℕ → ℕ → ℕ → Bool
same_text s a b = same (text s a) (text s b)

-- variable v is a local
unfoldable pub is_some : Option ℕ → Bool
is_some none = false
is_some (some slot) = true

unfoldable pub is_local : List ℕ → ℕ → Bool
is_local s v = is_some (resolve s (text s (field_a s v)))

-- a variable's position counts only where it is no local
unfoldable pub same_variable : List ℕ → ℕ → ℕ → Bool
same_variable s v w =
    elim (same_text s (field_a s v) (field_a s w)) [
      | true ↦ elim (eqb (position s v) (position s w)) [ true ↦ true | false ↦ is_local s v ]
      | false ↦ false
    ]

-- the role of a root: Variable, This, or 0 for any other
unfoldable pub root_kind : ℕ → ℕ
root_kind k = elim (eqb k variable_kind || eqb k this_kind) [ true ↦ k | false ↦ 0 ]

-- what `local` tells of root v: whether it is a local, where it is a variable
pub record RootLocal (s : List ℕ) (v : ℕ) (local : Bool) : Type 0 where
  pub tells : root_kind (role s v) ≡ variable_kind → local ≡ is_local s v

unfoldable pub same_root_as : ℕ → List ℕ → ℕ → ℕ → Bool
same_root_as k s v w =
    elim (eqb k variable_kind) [
      | true ↦ same_variable s v w
      | false ↦ elim (eqb k this_kind) [ true ↦ eqb (position s v) (position s w) | false ↦ true ]
    ]

unfoldable pub same_root : List ℕ → ℕ → ℕ → Bool
same_root s v w =
    elim (eqb (root_kind (role s v)) (root_kind (role s w))) [
      | true ↦ same_root_as (root_kind (role s v)) s v w
      | false ↦ false
    ]

-- the steps of links c and d, by what they are taken with
unfoldable pub same_index : List ℕ → ℕ → ℕ → Bool
same_index s c d =
    elim (eqb (position s c) (position s d)) [
      | true ↦ eqb (start_of s (operand_of s c)) (start_of s (operand_of s d))
      | false ↦ false
    ]

unfoldable pub same_property : List ℕ → ℕ → ℕ → Bool
same_property s x y =
    elim (eqb (position s x) (position s y)) [
      | true ↦
          same_text s (field_a s x) (field_a s y)
          && same_text s (field_b s x) (field_b s y)
          && same_text s (field_c s x) (field_c s y)
      | false ↦ false
    ]

unfoldable pub same_method : List ℕ → ℕ → ℕ → Bool
same_method s x y =
    elim (eqb (position s x) (position s y) && eqb (count s x) (count s y)) [
      | true ↦ same_text s (field_a s x) (field_a s y)
      | false ↦ false
    ]

unfoldable pub same_as : StepRule → List ℕ → ℕ → ℕ → Bool
same_as index s c d = same_index s c d
same_as property s c d = same_property s (operand_of s c) (operand_of s d)
same_as method s c d = same_method s (operand_of s c) (operand_of s d)
same_as flatten.none s c d = false

unfoldable pub rule_number : StepRule → ℕ
rule_number index = 0
rule_number property = 1
rule_number method = 2
rule_number flatten.none = 3

unfoldable pub same_by : StepRule → StepRule → List ℕ → ℕ → ℕ → Bool
same_by r q s c d =
    elim (eqb (rule_number r) (rule_number q) && eqb (negated s c) (negated s d)) [
      | true ↦ same_as r s c d
      | false ↦ false
    ]

unfoldable pub same_step : List ℕ → ℕ → ℕ → Bool
same_step s c d = same_by (step_rule s c) (step_rule s d) s c d

unfoldable pub same_steps : List ℕ → List ℕ → List ℕ → Bool
same_steps s [] [] = true
same_steps s [] (d ∷ ds) = false
same_steps s (c ∷ cs) [] = false
same_steps s (c ∷ cs) (d ∷ ds) = elim (same_step s c d) [ true ↦ same_steps s cs ds | false ↦ false ]

-- the steps of at most n links from c and from d on
unfoldable pub same_links : ℕ → List ℕ → ℕ → ℕ → Bool
same_links n s c d = same_steps s (links n s c) (links n s d)

-- the chains of nodes i and j
unfoldable pub same_nodes : List ℕ → ℕ → ℕ → Bool
same_nodes s i j =
    elim (same_links max_depth s i j) [
      | true ↦ same_root s (child i) (child j)
      | false ↦ false
    ]
