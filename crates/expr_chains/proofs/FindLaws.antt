-- Laws of the first entry that passes a test: where a list has grown, what was found is found at the same place, and what was added is
-- found where it was looked for.
use Prim.Native.Nat.{suc, ◌+◌, ◌<◌}
use mathlib.Core.Path.{◌≡◌, refl, sym, ap, ◌∙◌}
use mathlib.Core.Bool.{Bool, true, false}
use mathlib.Core.List.{List, [], ◌∷◌, ◌++◌}
use native.Mathlib.Omega.{arith}
use native.Mathlib.Nat.{zero-add, suc-add, add-zero}
use lib.Dec.{eqb}
use lib.ListN.{length, length-append}
use borrow.Author.Tests.{eqb-true, eqb-false}
use Rattle.lowering.proofs.FirstLaws.{first-here, first-later, first-within, added_new, added-old}
use Rattle.lowering.specs.Pools.{first_where, added}
use Rattle.expr_chains.proofs.Grow.{Grows, grows-refl}

module _ {A : Type 0} (test : A → Bool) where
  -- what is found stays where it is
  first-stays : (xs zs : List A) → first_where test xs < length xs → first_where test (xs ++ zs) ≡ first_where test xs
  first-stays [] zs = λ h. absurd (omega arith)
  first-stays (x ∷ xs) zs = by (test x) refl (first-stays xs zs)
    where
      by : (t : Bool) → test x ≡ t → (first_where test xs < length xs → first_where test (xs ++ zs) ≡ first_where test xs)
          → first_where test (x ∷ xs) < length (x ∷ xs) → first_where test (x ∷ (xs ++ zs)) ≡ first_where test (x ∷ xs)
      by true h r = λ k. first-here test x (xs ++ zs) h ∙ sym (first-here test x xs h)
      by false h r = rw (first-later test x xs h, first-later test x (xs ++ zs) h) (λ k. ap suc (r (omega arith)))

  -- where none is found, the first behind is
  first-behind : (xs zs : List A) → first_where test xs ≡ length xs → first_where test (xs ++ zs) ≡ length xs + first_where test zs
  first-behind [] zs = λ h. sym (zero-add (first_where test zs))
  first-behind (x ∷ xs) zs = by (test x) refl (first-behind xs zs)
    where
      by : (t : Bool) → test x ≡ t → (first_where test xs ≡ length xs → first_where test (xs ++ zs) ≡ length xs + first_where test zs)
          → first_where test (x ∷ xs) ≡ length (x ∷ xs) → first_where test (x ∷ (xs ++ zs)) ≡ length (x ∷ xs) + first_where test zs
      by true h r = rw (first-here test x xs h) (λ k. absurd (omega arith))
      by false h r =
          rw (first-later test x xs h, first-later test x (xs ++ zs) h)
          (λ k. ap suc (r (omega arith)) ∙ sym (suc-add (length xs) (first_where test zs)))

  -- the same in a list that has grown
  pub grown-same : {xs ys : List A} → Grows xs ys → first_where test xs < length xs → first_where test ys ≡ first_where test xs
  grown-same {xs} g h = rw g.whole (first-stays xs g.more h)

  pub grown-within : {xs ys : List A} → Grows xs ys → first_where test xs < length xs → first_where test ys < length ys
  grown-within {xs} g h = rw (g.whole, first-stays xs g.more h, length-append) (omega arith)

  pub added-grows : (x : A) (xs : List A) → Grows xs (added test x xs)
  added-grows x xs = by (eqb (first_where test xs) (length xs)) refl
    where
      by : (t : Bool) → eqb (first_where test xs) (length xs) ≡ t → Grows xs (added test x xs)
      by true h = rw (added_new test x xs h) (record { more = x ∷ []; whole = refl })
      by false h = rw (added-old test x xs h) (grows-refl xs)

  -- an entry that passes the test is found where it was looked for before it was added
  pub added-same : (x : A) (xs : List A) → test x ≡ true → first_where test (added test x xs) ≡ first_where test xs
  added-same x xs e = by (eqb (first_where test xs) (length xs)) refl
    where
      by : (t : Bool) → eqb (first_where test xs) (length xs) ≡ t → first_where test (added test x xs) ≡ first_where test xs
      by true h =
          let at = eqb-true (first_where test xs) (length xs) h in
          rw (added_new test x xs h) (first-behind xs (x ∷ []) at ∙ rw (first-here test x [] e, at) (add-zero (length xs)))
      by false h = ap (first_where test) (added-old test x xs h)

  pub added-within : (x : A) (xs : List A) → test x ≡ true → first_where test (added test x xs) < length (added test x xs)
  added-within x xs e = by (eqb (first_where test xs) (length xs)) refl
    where
      by : (t : Bool) → eqb (first_where test xs) (length xs) ≡ t → first_where test (added test x xs) < length (added test x xs)
      by true h =
          let at = eqb-true (first_where test xs) (length xs) h in
          let same = added-same x xs e in
          rw (same, added_new test x xs h, length-append) (omega arith)
      by false h =
          let ne = eqb-false (first_where test xs) (length xs) h in
          let le = first-within test xs in
          rw (added-old test x xs h) (omega arith)
