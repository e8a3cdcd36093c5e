-- What the bodies of a switch give and emit, by the blocks that have one; t is the tally of a node.
use Rattle.std.specs.Prelude.{ℕ, zero, suc, true, false, ◌||◌, List, [], ◌∷◌, eqb}
use Rattle.lowering.specs.SwitchSheet.{body_of}
use Rattle.expr_count.specs.declared.tallies.Tally.{Tally}
use Rattle.expr_count.specs.Tally.{instructions, nothing, plus, taken_back}
use Rattle.expr_count.specs.Count.{Rec}
use Rattle.switch_count.specs.Arms.{any_wants}

-- of n blocks from k on those that the lists ls can reach, and the default block (plus 1)
unfoldable pub bodies_from : List ℕ → List (List ℕ) → ℕ → ℕ → ℕ → List ℕ
bodies_from s ls def zero k = []
bodies_from s ls def (suc n) k =
    elim (eqb def (suc k) || any_wants s k ls) [ true ↦ k ∷ bodies_from s ls def n (suc k) | false ↦ bodies_from s ls def n (suc k) ]

-- a body with its jump
abbrev pub body_tally : List ℕ → Rec → ℕ → Tally
body_tally s t k = plus (t (body_of s k)) (instructions 1)

unfoldable pub bodies_tally : List ℕ → Rec → List ℕ → Tally
bodies_tally s t [] = nothing
bodies_tally s t (k ∷ ks) = plus (body_tally s t k) (bodies_tally s t ks)

-- the same where the last one falls through to the end: its jump is emitted, and then dropped
unfoldable pub fall_tally : List ℕ → Rec → List ℕ → Tally
fall_tally s t [] = nothing
fall_tally s t (k ∷ []) = plus (t (body_of s k)) (taken_back (instructions 1))
fall_tally s t (k ∷ j ∷ ks) = plus (body_tally s t k) (fall_tally s t (j ∷ ks))

-- bodies and default: a missing one has its Unit
unfoldable pub default_tally : List ℕ → Rec → ℕ → List ℕ → Tally
default_tally s t zero ks = plus (bodies_tally s t ks) (instructions 1)
default_tally s t (suc k) ks = fall_tally s t ks
