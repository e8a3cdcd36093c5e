-- A search along one bucket, over plain keys: where it ends nothing is found, and what is found is the first that passes. What passes the
-- test has the bucket that is gone through (`agrees`), and at most one key passes (`Once`).
use Rattle.std.proofs.Common.{◌≡◌, ℕ, suc, ◌<◌, ◌≤◌, Bool, true, false, List, length, get_or, sym, refl, ap, ◌∙◌, true≢false, arith}
use native.Mathlib.Decide.{dec_lt}
use Rattle.lowering.proofs.FirstLaws.{first-within, first_passes}
use Rattle.laws.proofs.Bool.{false-unless}
use Rattle.lowering.specs.Pools.{first_where}
use Rattle.scratch_keys.proofs.SeekLaws.{none_pass}
use Rattle.scratch_index.specs.Prev.{prev}
use Rattle.scratch_index.specs.Indexed.{ranked}
use Rattle.scratch_index.specs.Lookup.{Once}
use Rattle.scratch_index.proofs.PrevLaws.{prev-within, prev-bucket, prev-skips}

-- where no key passes, none is found
first-none :
    (P : ℕ → Bool) (ks : List ℕ) → ((i : ℕ) → i < length ks → P (get_or ks i 0) ≡ false) → first_where P ks ≡ length ks
first-none P ks h = by (dec_lt (first_where P ks) (length ks))
  where
    by : Dec (first_where P ks < length ks) → first_where P ks ≡ length ks
    by (yes l) = absurd (true≢false (sym (first_passes P 0 ks l) ∙ h (first_where P ks) l))
    by (no l) = let w = first-within P ks in omega arith

-- the only key that passes is the first
first-only :
    (P : ℕ → Bool) (ks : List ℕ) (e : ℕ) → Once P ks → e < length ks → P (get_or ks e 0) ≡ true → first_where P ks ≡ e
first-only P ks e o l p = by (dec_lt (first_where P ks) (length ks))
  where
    by : Dec (first_where P ks < length ks) → first_where P ks ≡ e
    by (yes m) = o.once (first_where P ks) e m l (first_passes P 0 ks m) p
    by (no m) =
        let w = first-within P ks in
        let z : first_where P ks ≡ length ks = omega arith in
        absurd (true≢false (sym p ∙ none_pass P ks z e l))

-- c is the rank + 1 of the entry that is looked at next, 0 for none: it has the bucket, and no entry from c on passes
pub record Seek (P : ℕ → Bool) (bucket : ℕ → ℕ) (b : ℕ) (ks : List ℕ) (c : ℕ) : Type 0 where
  pub within : c ≤ length ks
  pub here : (e : ℕ) → c ≡ suc e → bucket (get_or ks e 0) ≡ b
  pub none : (e : ℕ) → c ≤ e → e < length ks → P (get_or ks e 0) ≡ false

module _ (P : ℕ → Bool) (bucket : ℕ → ℕ) (b : ℕ) (ks : List ℕ) (agrees : (k : ℕ) → P k ≡ true → bucket k ≡ b) where
  other : (k : ℕ) → (bucket k ≡ b → ⊥) → P k ≡ false
  other k h = false-unless (P k) (λ p. h (agrees k p))

  -- at the head of the bucket
  pub seek-starts : Seek P bucket b ks (prev (ranked bucket ks) (length ks) b)
  seek-starts = record {
    within = prev-within (ranked bucket ks) (length ks) b;
    here = λ e q. prev-bucket (ranked bucket ks) (length ks) b e q;
    none = λ e h l. other (get_or ks e 0) (prev-skips (ranked bucket ks) (length ks) b e h l);
  }

  -- past entry e, along its link
  pub seek-goes :
      (e : ℕ) → Seek P bucket b ks (suc e) → P (get_or ks e 0) ≡ false
      → Seek P bucket b ks (prev (ranked bucket ks) e (bucket (get_or ks e 0)))
  seek-goes e s p =
      let w = s.within in
      let at = s.here e refl in
      let low = prev-within (ranked bucket ks) e (bucket (get_or ks e 0)) in
      record {
        within = omega arith;
        here = λ i q. prev-bucket (ranked bucket ks) e (bucket (get_or ks e 0)) i q ∙ at;
        none = λ i h l. by i h l (dec_lt i e) (dec_lt e i);
      }
    where
      by :
          (i : ℕ) → prev (ranked bucket ks) e (bucket (get_or ks e 0)) ≤ i → i < length ks → Dec (i < e) → Dec (e < i)
          → P (get_or ks i 0) ≡ false
      by i h l (yes d) f =
          other (get_or ks i 0) (λ q. prev-skips (ranked bucket ks) e (bucket (get_or ks e 0)) i h d (q ∙ sym (s.here e refl)))
      by i h l (no d) (yes f) = s.none i f l
      by i h l (no d) (no f) = let z : i ≡ e = omega arith in ap (λ (j : ℕ). P (get_or ks j 0)) z ∙ p

  -- no entry is left
  pub seek-ends : Seek P bucket b ks 0 → first_where P ks ≡ length ks
  seek-ends s = first-none P ks (λ i l. s.none i (omega arith) l)

  -- entry e passes
  pub seek_finds : (e : ℕ) → Once P ks → Seek P bucket b ks (suc e) → P (get_or ks e 0) ≡ true → first_where P ks ≡ e
  seek_finds e o s p = let w = s.within in first-only P ks e o (omega arith) p
