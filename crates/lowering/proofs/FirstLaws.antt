-- The place of the first entry that passes a test, and an entry that is added where none does.
use Prim.Native.Nat.{ℕ, zero, suc, ◌≤◌, ◌<◌}
use mathlib.Core.Path.{◌≡◌, refl, ap, ◌∙◌}
use mathlib.Core.Bool.{Bool, true, false}
use mathlib.Core.List.{List, [], ◌∷◌, ◌++◌}
use native.Mathlib.Omega.{arith}
use lib.Dec.{eqb}
use lib.ListN.{length, get_or}
use Rattle.lowering.specs.Pools.{first_where, added}

module _ {A : Type 0} (test : A → Bool) where
  -- the first entry passes
  pub first-here : (x : A) (xs : List A) → test x ≡ true → first_where test (x ∷ xs) ≡ 0
  unfolding first_where
  first-here x xs h = rw (h, first_where)

  -- or one behind it
  pub first-later : (x : A) (xs : List A) → test x ≡ false → first_where test (x ∷ xs) ≡ suc (first_where test xs)
  unfolding first_where
  first-later x xs h = rw (h, first_where)

  -- the length stands for none
  pub first-within : (xs : List A) → first_where test xs ≤ length xs
  unfolding first_where
  first-within [] = omega arith
  first-within (x ∷ xs) = by (test x) refl (first-within xs)
    where
      by : (t : Bool) → test x ≡ t → first_where test xs ≤ length xs → first_where test (x ∷ xs) ≤ length (x ∷ xs)
      by true h r = rw (first-here x xs h) (omega arith)
      by false h r = rw (first-later x xs h) (omega arith)

  -- what is found passes the test
  pub first_passes : (d : A) (xs : List A) → first_where test xs < length xs → test (get_or xs (first_where test xs) d) ≡ true
  first_passes d [] = λ h. absurd (omega arith)
  first_passes d (x ∷ xs) = by (test x) refl (first_passes d xs)
    where
      by : (t : Bool) → test x ≡ t → (first_where test xs < length xs → test (get_or xs (first_where test xs) d) ≡ true)
          → first_where test (x ∷ xs) < length (x ∷ xs) → test (get_or (x ∷ xs) (first_where test (x ∷ xs)) d) ≡ true
      by true h r = rw (first-here x xs h) (λ k. h)
      by false h r = rw (first-later x xs h) (λ k. r (omega arith))

  -- an entry that passes, and none before it does
  pub first-is : (d : A) (xs : List A) (i : ℕ) → i < length xs → test (get_or xs i d) ≡ true
      → ((k : ℕ) → k < i → test (get_or xs k d) ≡ false) → first_where test xs ≡ i
  first-is d [] i l h none = absurd (omega arith)
  first-is d (x ∷ xs) zero l h none = first-here x xs h
  first-is d (x ∷ xs) (suc i) l h none =
      first-later x xs (none 0 (omega arith))
      ∙ ap suc (first-is d xs i (omega arith) h (λ k m. none (suc k) (omega arith)))

  -- no entry passes
  pub first-none : (d : A) (xs : List A) → ((k : ℕ) → k < length xs → test (get_or xs k d) ≡ false) → first_where test xs ≡ length xs
  unfolding first_where
  first-none d [] none = refl
  first-none d (x ∷ xs) none =
      first-later x xs (none 0 (omega arith)) ∙ ap suc (first-none d xs (λ k m. none (suc k) (omega arith)))

  -- the two answers of `added`
  pub added_new : (x : A) (xs : List A) → eqb (first_where test xs) (length xs) ≡ true → added test x xs ≡ xs ++ (x ∷ [])
  unfolding added
  added_new x xs h = rw (h, added)

  pub added-old : (x : A) (xs : List A) → eqb (first_where test xs) (length xs) ≡ false → added test x xs ≡ xs
  unfolding added
  added-old x xs h = rw (h, added)
