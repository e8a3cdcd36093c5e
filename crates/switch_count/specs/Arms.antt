-- What the guard chains of a switch give and emit, by the lists of blocks that they serve; t is the tally of a node.
use Rattle.std.specs.Prelude.{ℕ, Bool, true, false, ◌||◌, List, [], ◌∷◌, eqb}
use Rattle.lowering.specs.SwitchSheet.{guard_of}
use Rattle.lowering.specs.Arms.{End, taken, declined, idle, never, always, tried, guard_kind}
use Rattle.expr_count.specs.declared.tallies.Tally.{Tally}
use Rattle.expr_count.specs.Tally.{instructions, nothing, plus, taken_back}
use Rattle.expr_count.specs.Count.{Rec}

-- a guard with its jump
abbrev pub try_tally : List ℕ → Rec → ℕ → Tally
try_tally s t k = plus (t (guard_of s k)) (instructions 1)

-- the guards that are tried: those that are constant false are passed over, and at one that is constant true the list ends
unfoldable pub tries_tally : List ℕ → Rec → List ℕ → Tally
tries_tally s t [] = nothing
tries_tally s t (k ∷ ks) =
    elim (guard_kind s (guard_of s k)) [
      | never ↦ tries_tally s t ks
      | always ↦ nothing
      | tried ↦ plus (try_tally s t k) (tries_tally s t ks)
    ]

-- how the list ends
unfoldable pub end_of : List ℕ → List ℕ → End
end_of s [] = declined
end_of s (k ∷ ks) =
    elim (guard_kind s (guard_of s k)) [ never ↦ end_of s ks | always ↦ taken k | tried ↦ end_of s ks ]

-- some guard is tried
unfoldable pub has_try : List ℕ → List ℕ → Bool
has_try s [] = false
has_try s (k ∷ ks) =
    elim (guard_kind s (guard_of s k)) [ never ↦ has_try s ks | always ↦ false | tried ↦ true ]

-- block k can be reached by the list
unfoldable pub wants : List ℕ → ℕ → List ℕ → Bool
wants s k [] = false
wants s k (j ∷ js) =
    elim (guard_kind s (guard_of s j)) [ never ↦ wants s k js | always ↦ eqb k j | tried ↦ eqb k j || wants s k js ]

-- by some list of many
unfoldable pub any_wants : List ℕ → ℕ → List (List ℕ) → Bool
any_wants s k [] = false
any_wants s k (l ∷ ls) = wants s k l || any_wants s k ls

-- the jump at the end of a chain, which is there if a guard is tried
unfoldable pub end_tally : Bool → Tally
end_tally true = instructions 1
end_tally false = nothing

unfoldable pub arm_tally : List ℕ → Rec → List ℕ → Tally
arm_tally s t l = plus (tries_tally s t l) (end_tally (has_try s l))

unfoldable pub arms_tally : List ℕ → Rec → List (List ℕ) → Tally
arms_tally s t [] = nothing
arms_tally s t (l ∷ ls) = plus (arm_tally s t l) (arms_tally s t ls)

-- the same where what follows is the fallback: a jump there is emitted, and then dropped
unfoldable pub idle_tally : Bool → End → Tally
idle_tally true (taken k) = instructions 1
idle_tally true declined = taken_back (instructions 1)
idle_tally true idle = taken_back (instructions 1)
idle_tally false e = nothing

unfoldable pub last_tally : List ℕ → Rec → List ℕ → Tally
last_tally s t l = plus (tries_tally s t l) (idle_tally (has_try s l) (end_of s l))

-- that arm is the last one of some length
unfoldable pub falls_tally : List ℕ → Rec → List (List ℕ) → Tally
falls_tally s t [] = nothing
falls_tally s t (l ∷ ls) =
    elim (eqb (arms_tally s t ls).len 0) [
      | true ↦ plus (last_tally s t l) (arms_tally s t ls)
      | false ↦ plus (arm_tally s t l) (falls_tally s t ls)
    ]
