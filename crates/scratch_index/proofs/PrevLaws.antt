-- What `prev` answers has the bucket, and no entry from it on has.
use Rattle.std.proofs.Common.{◌≡◌, ℕ, zero, suc, ◌<◌, ◌≤◌, Bool, true, false, eqb, sym, refl, ap, ◌∙◌, arith, eq-eqb, ne_eqb, eqb-true}
use native.Mathlib.Decide.{dec_lt}
use borrow.Author.Tests.{eqb-false}
use Rattle.scratch_index.specs.Prev.{prev}

module _ (bucket : ℕ → ℕ) where
  pub prev-none : (b : ℕ) → prev bucket 0 b ≡ 0
  unfolding prev
  prev-none b = refl

  pub prev-here : (n b : ℕ) → bucket n ≡ b → prev bucket (suc n) b ≡ suc n
  unfolding prev
  prev-here n b e = rw (eq-eqb (bucket n) b e, prev)

  pub prev-later : (n b : ℕ) → (bucket n ≡ b → ⊥) → prev bucket (suc n) b ≡ prev bucket n b
  unfolding prev
  prev-later n b e = rw (ne_eqb (bucket n) b e, prev)

  pub prev-within : (n b : ℕ) → prev bucket n b ≤ n
  prev-within zero b = let e = prev-none b in omega arith
  prev-within (suc n) b = by (eqb (bucket n) b) refl (prev-within n b)
    where
      by : (t : Bool) → eqb (bucket n) b ≡ t → prev bucket n b ≤ n → prev bucket (suc n) b ≤ suc n
      by true h r = let e = prev-here n b (eqb-true (bucket n) b h) in omega arith
      by false h r = let e = prev-later n b (eqb-false (bucket n) b h) in omega arith

  -- what is answered has the bucket
  pub prev-bucket : (n b e : ℕ) → prev bucket n b ≡ suc e → bucket e ≡ b
  prev-bucket zero b e = λ h. absurd (omega (arith, prev-none b))
  prev-bucket (suc n) b e = by (eqb (bucket n) b) refl (prev-bucket n b e)
    where
      by :
          (t : Bool) → eqb (bucket n) b ≡ t → (prev bucket n b ≡ suc e → bucket e ≡ b)
          → prev bucket (suc n) b ≡ suc e → bucket e ≡ b
      by true h r q =
          let k = eqb-true (bucket n) b h in
          let p = prev-here n b k in
          let z : e ≡ n = omega arith in
          ap bucket z ∙ k
      by false h r q = r (sym (prev-later n b (eqb-false (bucket n) b h)) ∙ q)

  -- what lies behind it has not
  pub prev-skips : (n b e : ℕ) → prev bucket n b ≤ e → e < n → bucket e ≡ b → ⊥
  prev-skips zero b e = λ h l q. omega arith
  prev-skips (suc n) b e = by (eqb (bucket n) b) refl (prev-skips n b e) (dec_lt e n)
    where
      by :
          (t : Bool) → eqb (bucket n) b ≡ t → (prev bucket n b ≤ e → e < n → bucket e ≡ b → ⊥) → Dec (e < n)
          → prev bucket (suc n) b ≤ e → e < suc n → bucket e ≡ b → ⊥
      by true h r d p l q = let z = prev-here n b (eqb-true (bucket n) b h) in omega arith
      by false h r (yes d) p l q = let z = prev-later n b (eqb-false (bucket n) b h) in r (omega arith) d q
      by false h r (no d) p l q = let z : n ≡ e = omega arith in eqb-false (bucket n) b h (ap bucket z ∙ q)

-- by buckets that are the same below n
pub prev-alike : (f g : ℕ → ℕ) (n b : ℕ) → ((e : ℕ) → e < n → f e ≡ g e) → prev f n b ≡ prev g n b
prev-alike f g zero b h = prev-none f b ∙ sym (prev-none g b)
prev-alike f g (suc n) b h = by (eqb (f n) b) refl (prev-alike f g n b (λ e l. h e (omega arith)))
  where
    same : f n ≡ g n
    same = h n (omega arith)

    by : (t : Bool) → eqb (f n) b ≡ t → prev f n b ≡ prev g n b → prev f (suc n) b ≡ prev g (suc n) b
    by true e r = let k = eqb-true (f n) b e in prev-here f n b k ∙ sym (prev-here g n b (sym same ∙ k))
    by false e r =
        let k = eqb-false (f n) b e in
        prev-later f n b k ∙ r ∙ sym (prev-later g n b (λ q. k (same ∙ q)))
