-- Laws of the pieces by their numbers.
use Prim.Native.Nat.{ℕ, zero, suc, ◌+◌, ◌*◌, ◌-◌, ◌/◌, ◌%◌, ◌<◌}
use mathlib.Core.Path.{◌≡◌, refl, sym, ◌∙◌}
use mathlib.Core.Bool.{Bool, true, false}
use mathlib.Core.List.{List, [], ◌∷◌}
use native.Mathlib.Omega.{arith}
use lib.Dec.{ltb, eqb}
use lib.IntN.{ℤ}
use lib.Signed.{lt_z}
use lib.ListN.{length, get_or, length-map}
use mir.Syntax.{w64}
use mir.Val.{SFits}
use mir.ValLaws.{to_z-of_z}
use borrow.Author.Tests.{eq-eqb, ne_eqb, eqb-true, eqb-false}
use Rattle.switch_split.specs.Excess.{excess_of}
use Rattle.switch_split.proofs.OrderLaws.{as_read, below}
use Rattle.switch_split.specs.Range.{Range}
use Rattle.switch_split.specs.Split.{Atom, point, between, atoms_from, atoms, piece, pieces}
use Rattle.switch_split.specs.Points.{cuts}
use Rattle.switch_split.proofs.SplitLaws.{atoms-count}
use Rattle.switch_split.specs.Piece.{cut_at, atom_at}

-- a test of integers that are read from their bits
pub below-read : (a b : ℤ) → SFits w64 a → SFits w64 b → lt_z (as_read a) (as_read b) ≡ ltb (excess_of a) (excess_of b)
below-read a b f g = cc (to_z-of_z w64 a f, to_z-of_z w64 b g, below a b f g)

-- ---- pieces by number

module _ (cs : List ℕ) (j : ℕ) where
  pub at-even : j % 2 ≡ 0 → atom_at cs j ≡ point (cut_at cs (j / 2))
  unfolding atom_at
  at-even e = cc (eq-eqb (j % 2) 0 e)

  pub at-odd : (j % 2 ≡ 0 → ⊥) → atom_at cs j ≡ between (cut_at cs (j / 2)) (cut_at cs (j / 2 + 1))
  unfolding atom_at
  at-odd e = cc (ne_eqb (j % 2) 0 e)

-- two pieces on, one cut on
later : (p q : ℕ) (ps : List ℕ) (k : ℕ) → atom_at (p ∷ q ∷ ps) (suc (suc k)) ≡ atom_at (q ∷ ps) k
later p q ps k = by (eqb (k % 2) 0) refl
  where
    half : suc (suc k) / 2 ≡ suc (k / 2)
    half = omega arith

    next : suc (suc k) / 2 + 1 ≡ suc (k / 2 + 1)
    next = omega arith

    by : (t : Bool) → eqb (k % 2) 0 ≡ t → atom_at (p ∷ q ∷ ps) (suc (suc k)) ≡ atom_at (q ∷ ps) k
    by true e =
        let z : k % 2 ≡ 0 = eqb-true (k % 2) 0 e in
        cc (at-even (p ∷ q ∷ ps) (suc (suc k)) (omega arith), at-even (q ∷ ps) k z, half)
    by false e =
        let z : k % 2 ≡ 0 → ⊥ = eqb-false (k % 2) 0 e in
        cc (at-odd (p ∷ q ∷ ps) (suc (suc k)) (λ w. z (omega arith)), at-odd (q ∷ ps) k z, half, next)

from_at : (p : ℕ) (ps : List ℕ) (d : Atom) (j : ℕ) → j < length (atoms_from p ps) → get_or (atoms_from p ps) j d ≡ atom_at (p ∷ ps) j
unfolding atoms_from atom_at
from_at p [] d zero h = refl
from_at p [] d (suc j) h = absurd (omega arith)
from_at p (q ∷ ps) d zero h = refl
from_at p (q ∷ ps) d (suc zero) h = refl
from_at p (q ∷ ps) d (suc (suc j)) h = from_at q ps d j (omega arith) ∙ sym (later p q ps j)

-- the pieces in their order
pub atoms-at : (cs : List ℕ) (d : Atom) (j : ℕ) → j < length (atoms cs) → get_or (atoms cs) j d ≡ atom_at cs j
unfolding atoms
atoms-at [] d j h = absurd (omega arith)
atoms-at (p ∷ ps) d j h = from_at p ps d j h

pub pieces-count : (rs : List Range) → length (pieces rs) ≡ 2 * length (cuts rs) - 1
unfolding pieces
pieces-count rs = length-map (atoms (cuts rs)) (piece rs) ∙ atoms-count (cuts rs)
