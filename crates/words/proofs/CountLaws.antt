-- Laws of a test of every number below a bound, in the forms that a loop over 0, 1, .. needs.
use Prim.Native.Nat.{ℕ, zero, suc, ◌+◌, ◌<◌}
use mathlib.Core.Path.{◌≡◌, refl, sym, ap, subst, ◌∙◌}
use mathlib.Core.Bool.{Bool, true, false, ◌&&◌, and-eq-true_iff, true≢false}
use native.Mathlib.Decide.{dec_lt}
use native.Mathlib.Nat.{not-suc-le-zero}
use native.Mathlib.Numerals.{add-one}
use native.Mathlib.Omega.{arith}
use Rattle.laws.proofs.Bool.{false-unless, and-lazy}
use Rattle.words.specs.Count.{all_below}

-- no number is below 0
pub all_none : (f : ℕ → Bool) → all_below 0 f ≡ true
unfolding all_below
all_none f = refl

-- the numbers below n + 1 are those below n, and n
pub all-suc : (f : ℕ → Bool) (n : ℕ) → all_below (suc n) f ≡ (all_below n f && f n)
unfolding all_below
all-suc f n = and-lazy (all_below n f) (f n)

-- one number more
pub all_more : (f : ℕ → Bool) (i : ℕ) → all_below i f ≡ true → f i ≡ true → all_below (i + 1) f ≡ true
all_more f i h e = rw (add-one, all-suc) ((and-eq-true_iff (all_below i f) (f i)).1 (h, e))

-- a fact of each number below n and of n is one of each number below n + 1
last_or : (P : ℕ → Type 0) (n k : ℕ) → k < suc n → (k < n → P k) → P n → P k
last_or P n k l below at = by (dec_lt k n)
  where
    by : Dec (k < n) → P k
    by (yes b) = below b
    by (no b) = subst P (omega arith) at

-- every number below the bound passes
pub all-at : (f : ℕ → Bool) (n k : ℕ) → all_below n f ≡ true → k < n → f k ≡ true
all-at f zero k h l = absurd (not-suc-le-zero l)
all-at f (suc n) k h l =
    let both = (and-eq-true_iff (all_below n f) (f n)).0 (rw all-suc at h) in
    last_or (λ k. f k ≡ true) n k l (λ b. all-at f n k both.0 b) both.1

-- where every number passes, so does the whole
pub all_of : (f : ℕ → Bool) (n : ℕ) → ((k : ℕ) → k < n → f k ≡ true) → all_below n f ≡ true
all_of f zero h = all_none f
all_of f (suc n) h =
    rw all-suc ((and-eq-true_iff (all_below n f) (f n)).1 (all_of f n (λ k l. h k (omega arith)), h n (omega arith)))

-- one number that fails makes the whole fail
pub all-fails : (f : ℕ → Bool) (n k : ℕ) → k < n → f k ≡ false → all_below n f ≡ false
all-fails f n k l e =
    false-unless (all_below n f) (λ h. true≢false (subst (λ b. b ≡ false) (all-at f n k h l) e))

-- tests that agree below the bound agree as a whole
pub all_same : (f g : ℕ → Bool) (n : ℕ) → ((k : ℕ) → k < n → f k ≡ g k) → all_below n f ≡ all_below n g
all_same f g zero h = rw (all_none f, all_none g)
all_same f g (suc n) h =
    rw (all-suc f n, all-suc g n, all_same f g n (λ k l. h k (omega arith)), h n (omega arith))

-- where the whole fails, some number does
pub some-fails : (f : ℕ → Bool) (n : ℕ) → all_below n f ≡ false → (k : ℕ) × (k < n) × (f k ≡ false)
some-fails f zero h = absurd (true≢false (sym (all_none f) ∙ h))
some-fails f (suc n) h = by (some-fails f n) (all_below n f) refl
  where
    by : (all_below n f ≡ false → (k : ℕ) × (k < n) × (f k ≡ false)) → (t : Bool) → all_below n f ≡ t
        → (k : ℕ) × (k < suc n) × (f k ≡ false)
    by earlier false e = let r = earlier e in (r.0, omega (arith, r.1), r.2)
    by earlier true e = (n, omega arith, sym (ap (λ t. t && f n) e) ∙ (sym (all-suc f n) ∙ h))
