-- Entries of a pool are pairwise different: an entry that is added where none is found keeps it, and at most one passes a test
-- that no two different entries pass.
use Rattle.std.proofs.Common.{◌≡◌, ℕ, zero, suc, ◌<◌, Bool, true, false, List, [], ◌∷◌, ◌++◌, length, get_or, sym, refl, ap, ◌∙◌, ap₂}
use Rattle.std.proofs.Common.{true≢false, arith, length-append}
use native.Mathlib.Decide.{dec_lt}
use lib.ListN.{get_or-append}
use lib.Seq.{get_or-append_seam}
use Rattle.lowering.proofs.FirstLaws.{first-here, first-later}
use Rattle.lowering.specs.Pools.{first_where}
use Rattle.scratch_index.specs.Pool.{Differ}

-- where none is found, none passes
pub first-fails :
    {A : Type 0} (test : A → Bool) (dflt : A) (xs : List A) → first_where test xs ≡ length xs
    → (i : ℕ) → i < length xs → test (get_or xs i dflt) ≡ false
first-fails test dflt [] e = λ i h. absurd (omega arith)
first-fails test dflt (x ∷ xs) e = by (test x) refl (λ r. first-fails test dflt xs r)
  where
    by :
        (t : Bool) → test x ≡ t → (first_where test xs ≡ length xs → (i : ℕ) → i < length xs → test (get_or xs i dflt) ≡ false)
        → (i : ℕ) → i < length (x ∷ xs) → test (get_or (x ∷ xs) i dflt) ≡ false
    by true h r i l = absurd (omega (arith, first-here test x xs h, e))
    by false h r zero l = h
    by false h r (suc i) l = r (omega (arith, first-later test x xs h, e)) i (omega arith)

module _ {A : Type 0} (same : A → A → Bool) (dflt : A) where
  pub differ-none : Differ same dflt []
  differ-none = record { apart = λ i j h l. absurd (omega arith) }

  -- one more, which was not found
  pub differ-snoc :
      (x : A) (xs : List A) → first_where (same x) xs ≡ length xs → Differ same dflt xs → Differ same dflt (xs ++ (x ∷ []))
  differ-snoc x xs new d = record { apart = λ i j h l. by i j h l (dec_lt j (length xs)) }
    where
      by :
          (i j : ℕ) → i < j → j < length (xs ++ (x ∷ [])) → Dec (j < length xs)
          → same (get_or (xs ++ (x ∷ [])) j dflt) (get_or (xs ++ (x ∷ [])) i dflt) ≡ false
      by i j h l (yes f) =
          ap₂ same (get_or-append xs (x ∷ []) dflt j f) (get_or-append xs (x ∷ []) dflt i (omega arith)) ∙ d.apart i j h f
      by i j h l (no f) =
          let m = length-append xs (x ∷ []) in
          let z : j ≡ length xs = omega arith in
          ap₂ same (ap (λ (n : ℕ). get_or (xs ++ (x ∷ [])) n dflt) z ∙ get_or-append_seam xs x [] dflt)
          (get_or-append xs (x ∷ []) dflt i (omega arith))
          ∙ first-fails (same x) dflt xs new i (omega arith)

  -- at most one entry passes a test that no two different entries pass
  pub differ-one :
      (P : A → Bool) → ((x y : A) → P x ≡ true → P y ≡ true → same x y ≡ true) → (xs : List A) → Differ same dflt xs
      → (i j : ℕ) → i < length xs → j < length xs → P (get_or xs i dflt) ≡ true → P (get_or xs j dflt) ≡ true → i ≡ j
  differ-one P one xs d i j h k p q = by (dec_lt i j) (dec_lt j i)
    where
      never : (m n : ℕ) → m < n → n < length xs → P (get_or xs m dflt) ≡ true → P (get_or xs n dflt) ≡ true → ⊥
      never m n l f a b = true≢false (sym (one (get_or xs n dflt) (get_or xs m dflt) b a) ∙ d.apart m n l f)

      by : Dec (i < j) → Dec (j < i) → i ≡ j
      by (yes l) f = absurd (never i j l k p q)
      by (no l) (yes f) = absurd (never j i f h q p)
      by (no l) (no f) = omega arith
