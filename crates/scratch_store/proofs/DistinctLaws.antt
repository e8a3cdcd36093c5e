-- There are no more numbers below n that differ from each other than n.
use Rattle.std.proofs.Common.{◌≡◌, ℕ, zero, suc, ◌<◌, ◌≤◌, Bool, true, false, eqb, List, [], ◌∷◌, ◌++◌, length, sym, refl, ap, ◌∙◌}
use Rattle.std.proofs.Common.{true≢false, arith, length-append, eqb-true}
use borrow.Author.Tests.{eqb-false}
use Rattle.lowering.proofs.FirstLaws.{first-here, first-later}
use Rattle.lowering.specs.Pools.{first_where}
use Rattle.expr_chains.specs.Pooled.{All}
use Rattle.scratch_store.specs.Distinct.{Apart, Below, Distinct}

module _ (P : ℕ → Type 0) where
  pub all_snoc : (xs : List ℕ) (x : ℕ) → All P xs → P x → All P (xs ++ (x ∷ []))
  all_snoc [] x h p = (p, tt)
  all_snoc (y ∷ xs) x h p = (h.0, all_snoc xs x h.1 p)

pub distinct_snoc : (xs : List ℕ) (x : ℕ) → Distinct xs → Apart x xs → Distinct (xs ++ (x ∷ []))
distinct_snoc [] x d a = (tt, tt)
distinct_snoc (y ∷ xs) x d a = (all_snoc (λ z. z ≡ y → ⊥) xs x d.0 (λ e. a.0 (sym e)), distinct_snoc xs x d.1 a.1)

-- xs with v left out
unfoldable without : ℕ → List ℕ → List ℕ
without v [] = []
without v (x ∷ xs) = elim (eqb x v) [ true ↦ without v xs | false ↦ x ∷ without v xs ]

module _ (v : ℕ) where
  without-here : (x : ℕ) (xs : List ℕ) → eqb x v ≡ true → without v (x ∷ xs) ≡ without v xs
  unfolding without
  without-here x xs h = rw (h, without)

  without-there : (x : ℕ) (xs : List ℕ) → eqb x v ≡ false → without v (x ∷ xs) ≡ x ∷ without v xs
  unfolding without
  without-there x xs h = rw (h, without)

  -- what holds of the others
  without_all : (P Q : ℕ → Type 0) → ((y : ℕ) → P y → (y ≡ v → ⊥) → Q y) → (xs : List ℕ) → All P xs → All Q (without v xs)
  unfolding without
  without_all P Q f [] h = tt
  without_all P Q f (x ∷ xs) h = by (eqb x v) refl (without_all P Q f xs h.1)
    where
      by : (t : Bool) → eqb x v ≡ t → All Q (without v xs) → All Q (without v (x ∷ xs))
      by true e r = rw (without-here x xs e) r
      by false e r = rw (without-there x xs e) (f x h.0 (eqb-false x v e), r)

  without-distinct : (xs : List ℕ) → Distinct xs → Distinct (without v xs)
  unfolding without
  without-distinct [] d = tt
  without-distinct (x ∷ xs) d = by (eqb x v) refl (without-distinct xs d.1)
    where
      by : (t : Bool) → eqb x v ≡ t → Distinct (without v xs) → Distinct (without v (x ∷ xs))
      by true e r = rw (without-here x xs e) r
      by false e r =
          rw (without-there x xs e)
          (without_all (λ y. y ≡ x → ⊥) (λ y. y ≡ x → ⊥) (λ y p q. p) xs d.0, r)

  without-none : (xs : List ℕ) → Apart v xs → length (without v xs) ≡ length xs
  unfolding without
  without-none [] a = refl
  without-none (x ∷ xs) a = by (eqb x v) refl (without-none xs a.1)
    where
      by : (t : Bool) → eqb x v ≡ t → length (without v xs) ≡ length xs → length (without v (x ∷ xs)) ≡ length (x ∷ xs)
      by true e r = absurd (a.0 (eqb-true x v e))
      by false e r = rw (without-there x xs e) (ap suc r)

  -- at most one number is left out
  without-one : (xs : List ℕ) → Distinct xs → length xs ≤ suc (length (without v xs))
  unfolding without
  without-one [] d = omega arith
  without-one (x ∷ xs) d = by (eqb x v) refl (without-one xs d.1)
    where
      by : (t : Bool) → eqb x v ≡ t → length xs ≤ suc (length (without v xs)) → length (x ∷ xs) ≤ suc (length (without v (x ∷ xs)))
      by true e r =
          let same = without-none xs (rw (sym (eqb-true x v e)) d.0) in
          rw (without-here x xs e) (omega arith)
      by false e r = rw (without-there x xs e) (omega arith)

-- different numbers below n are at most n
pub distinct-few : (n : ℕ) (xs : List ℕ) → Distinct xs → Below n xs → length xs ≤ n
distinct-few zero [] d b = omega arith
distinct-few zero (x ∷ xs) d b = let l = b.0 in absurd (omega arith)
distinct-few (suc n) xs d b =
    let below = without_all n (λ y. y < suc n) (λ y. y < n) (λ y l ne. omega arith) xs b in
    let rest = distinct-few n (without n xs) (without-distinct n xs d) below in
    let one = without-one n xs d in
    omega arith

-- a number that is not among them leaves room for itself
pub distinct-room : (n : ℕ) (xs : List ℕ) (x : ℕ) → Distinct xs → Below n xs → Apart x xs → x < n → length xs < n
distinct-room n xs x d b a l =
    let few = distinct-few n (xs ++ (x ∷ [])) (distinct_snoc xs x d a) (all_snoc (λ y. y < n) xs x b l) in
    let more = length-append xs (x ∷ []) in
    omega arith

-- a number that passes the test is not among numbers that do not
pub first-apart : (test : ℕ → Bool) (x : ℕ) (xs : List ℕ) → test x ≡ true → first_where test xs ≡ length xs → Apart x xs
first-apart test x [] t h = tt
first-apart test x (y ∷ xs) t h = by (test y) refl (first-apart test x xs t)
  where
    by : (b : Bool) → test y ≡ b → (first_where test xs ≡ length xs → Apart x xs) → Apart x (y ∷ xs)
    by true e rest = let z = first-here test y xs e in absurd (omega arith)
    by false e rest =
        let z = first-later test y xs e in
        (λ q. true≢false (sym t ∙ sym (ap test q) ∙ e), rest (omega arith))
