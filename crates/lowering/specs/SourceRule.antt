-- The source rule: what a switch sheet says of a signed integer and the guards' answers, one for each try. The integer is in excess form.
use Rattle.std.specs.Prelude.{ℕ, zero, suc, Bool, true, false, ◌&&◌, List, [], ◌∷◌, ◌++◌, eqb}
use Rattle.sheet.specs.Node.{kind, field_a, child}
use Rattle.switch_split.specs.Range.{containing}
use Rattle.lowering.specs.Kinds.{bool_kind, int_kind}
use Rattle.lowering.specs.SwitchSheet.{default_block, guard_of, cases_of, case_blocks, int_at, ranges_of}
use Rattle.lowering.specs.Guided.{Event, tried, reached, missing}

-- Case c is an Int of value x
unfoldable pub is_case_of : List ℕ → ℕ → ℕ → Bool
is_case_of s x c = eqb (kind s (child c)) int_kind && eqb (int_at s (child c)) x

-- the Refs' blocks of the Case that is an Int of value x
unfoldable pub case_list : List ℕ → ℕ → List ℕ → List ℕ
case_list s x [] = []
case_list s x (c ∷ cs) = elim (is_case_of s x c) [ true ↦ case_blocks s c | false ↦ case_list s x cs ]

-- then the block of every Range containing x, in sheet order
unfoldable pub list_for : List ℕ → ℕ → List ℕ
list_for s x = case_list s x (cases_of s) ++ containing (ranges_of s) x

-- after the list the default is named: its block's body, or Unit where there is none
unfoldable pub default_events : ℕ → List Event
default_events zero = missing ∷ []
default_events (suc k) = reached k ∷ []

-- a guard Bool is not tried
unfoldable pub is_bool : List ℕ → ℕ → Bool
is_bool s k = eqb (kind s (guard_of s k)) bool_kind

unfoldable pub is_false : List ℕ → ℕ → Bool
is_false s k = eqb (field_a s (guard_of s k)) 0

-- the list from the front, with n answers taken before
unfoldable pub go_through : List ℕ → (ℕ → Bool) → ℕ → List ℕ → List Event
go_through s answers n [] = default_events (default_block s)
go_through s answers n (k ∷ ks) =
    elim (is_bool s k) [
      | true ↦ elim (is_false s k) [ true ↦ go_through s answers n ks | false ↦ reached k ∷ [] ]
      | false ↦
          tried k ∷ elim (answers n) [ true ↦ reached k ∷ [] | false ↦ go_through s answers (suc n) ks ]
    ]

-- guards tried and body named
unfoldable pub source_rule : List ℕ → ℕ → (ℕ → Bool) → List Event
source_rule s x answers = go_through s answers 0 (list_for s x)
