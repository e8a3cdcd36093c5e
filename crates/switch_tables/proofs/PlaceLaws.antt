-- Laws of places in a list that ascends strictly. Shown: a number of the list stands at its place; what a look at one number says of
-- the place (the two steps of a binary search). Assumed: `Strict` of the list, membership of the number.
use Prim.Native.Nat.{ℕ, zero, suc, ◌≤◌, ◌<◌}
use mathlib.Core.Path.{◌≡◌, refl, sym}
use mathlib.Core.Logic.{◌⊎◌, inl, inr}
use mathlib.Core.List.Memᴰ
use mathlib.Core.List.{List, [], ◌∷◌, Memᴰ}
use native.Mathlib.Omega.{arith}
use native.Mathlib.Decide.{dec_lt}
use lib.ListN.{length}
use borrow.Author.Tests.{lt-ltb, le-ltb}
use Rattle.switch_split.proofs.SplitRight.{rising-above}
use Rattle.switch_split.specs.Points.{Rising, Strict}
use Rattle.switch_split.specs.Piece.{cut_at}
use Rattle.switch_tables.specs.Place.{place}

module _ (c : ℕ) (cs : List ℕ) (v : ℕ) where
  place-more : c < v → place (c ∷ cs) v ≡ suc (place cs v)
  unfolding place
  place-more h = rw (lt-ltb c v h, place)

  place_here : v ≤ c → place (c ∷ cs) v ≡ 0
  unfolding place
  place_here h = rw (le-ltb c v h, place)

place_none : (v : ℕ) → place [] v ≡ 0
unfolding place
place_none v = refl

pub place-most : (cs : List ℕ) (v : ℕ) → place cs v ≤ length cs
place-most [] v = omega (arith, place_none v)
place-most (c ∷ cs) v =
    elim (dec_lt c v) [
      | yes h ↦ omega (arith, place-more c cs v h, place-most cs v)
      | no n ↦ omega (arith, place_here c cs v (omega arith))
    ]

-- ---- order by index

rising-at : (b : ℕ) (cs : List ℕ) (i : ℕ) → Rising b cs → i < length cs → b < cut_at cs i
rising-at b [] i h l = absurd (omega arith)
rising-at b (c ∷ cs) zero h l = h.0
rising-at b (c ∷ cs) (suc i) h l = omega (arith, h.0, rising-at c cs i h.1 (omega arith))

strict_next : (c : ℕ) (cs : List ℕ) → Rising c cs → Strict cs
strict_next c [] h = tt
strict_next c (d ∷ cs) h = h.1

pub strict-at : (cs : List ℕ) (i k : ℕ) → Strict cs → i < k → k < length cs → cut_at cs i < cut_at cs k
strict-at [] i k h l m = absurd (omega arith)
strict-at (c ∷ cs) i zero h l m = absurd (omega arith)
strict-at (c ∷ cs) zero (suc k) h l m = rising-at c cs k h (omega arith)
strict-at (c ∷ cs) (suc i) (suc k) h l m = strict-at cs i k (strict_next c cs h) (omega arith) (omega arith)

-- ---- a look at number i

pub place-above : (cs : List ℕ) (v i : ℕ) → Strict cs → i < length cs → cut_at cs i < v → i < place cs v
place-above [] v i h l m = absurd (omega arith)
place-above (c ∷ cs) v zero h l m = omega (arith, place-more c cs v m)
place-above (c ∷ cs) v (suc i) h l m =
    let low : c < cut_at cs i = rising-at c cs i h (omega arith) in
    omega (arith, place-more c cs v (omega arith), place-above cs v i (strict_next c cs h) (omega arith) m)

pub place-below : (cs : List ℕ) (v i : ℕ) → i < length cs → v ≤ cut_at cs i → place cs v ≤ i
place-below [] v i l m = absurd (omega arith)
place-below (c ∷ cs) v zero l m = omega (arith, place_here c cs v m)
place-below (c ∷ cs) v (suc i) l m =
    elim (dec_lt c v) [
      | yes h ↦ omega (arith, place-more c cs v h, place-below cs v i (omega arith) m)
      | no n ↦ omega (arith, place_here c cs v (omega arith))
    ]

-- ---- a number of the list stands at its place

pub record Placed (cs : List ℕ) (v p : ℕ) : Type 0 where
  pub within : p < length cs
  pub here : cut_at cs p ≡ v

pub place-placed : (cs : List ℕ) (v : ℕ) → Strict cs → Memᴰ v cs → Placed cs v (place cs v)
place-placed [] v h m = elim m [ ]
place-placed (c ∷ cs) v h m = by (place-placed cs v (strict_next c cs h)) (Memᴰ.cases_cons m)
  where
    by : (Memᴰ v cs → Placed cs v (place cs v)) → (v ≡ c) ⊎ Memᴰ v cs → Placed (c ∷ cs) v (place (c ∷ cs) v)
    by k (inl e) = rw (place_here c cs v (omega arith)) (record { within = omega arith; here = sym e })
    by k (inr n) =
        let r : Placed cs v (place cs v) = k n in
        rw (place-more c cs v (rising-above c v cs h n)) (record { within = omega (arith, r.within); here = r.here })
