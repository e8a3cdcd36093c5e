-- Four and eight bytes are told apart by their number, so strings can be compared four and eight bytes at a time.
use Prim.Native.Nat.{ℕ, zero, suc, ◌+◌, ◌*◌, ◌-◌, ◌^◌, ◌<◌, ◌≤◌}
use mathlib.Core.Path.{◌≡◌, ap, sym, subst, ◌∙◌}
use mathlib.Core.Bool.{true, false, ◌&&◌, and-eq-true_iff}
use mathlib.Core.List.{List, [], ◌∷◌}
use Rattle.std.specs.Int.{from_le_bytes, w32, w64}
use native.Mathlib.Decide.{ℕ_discrete, dec_lt}
use native.Mathlib.Nat.{add-zero}
use native.Mathlib.Omega.{arith}
use mir.Syntax.{w8}
use mir.Val.{Fits}
use lib.Dec.{eqb}
use lib.ListN.{length, get_or}
use borrow.Author.Tests.{eqb-true, eq-eqb, ne_eqb}
use Rattle.text.specs.Same.{same}
use Rattle.text.proofs.SameLaws.{same_false, same-each}
use Rattle.text.specs.Eight.{from_four, four_at, eight_at, block_same, Agree}

-- all bytes of a string are bytes
pub record Bytes (s : List ℕ) : Type 0 where
  pub byte : (k : ℕ) → get_or s k 0 < 256

pub bytes_of : (s : List ℕ) → ((k : ℕ) → Fits w8 (get_or s k 0)) → Bytes s
bytes_of s h = record { byte = λ k. omega (arith, h k) }

-- four bytes are below 2 ^ 32
four-small : (s : List ℕ) → Bytes s → (i : ℕ) → four_at s i < 2 ^ 32
unfolding four_at
four-small s b i = omega (arith, b.byte i, b.byte (i + 1), b.byte (i + 2), b.byte (i + 3))

-- as std puts four bytes together, and eight
pub four-le : (s : List ℕ) (i : ℕ)
    → from_le_bytes w32 (get_or s i 0 ∷ get_or s (i + 1) 0 ∷ get_or s (i + 2) 0 ∷ get_or s (i + 3) 0 ∷ []) ≡ four_at s i
unfolding four_at
four-le s i = omega arith

pub eight-le : (s : List ℕ) (i : ℕ) → from_le_bytes w64
    (get_or s i 0 ∷ get_or s (i + 1) 0 ∷ get_or s (i + 2) 0 ∷ get_or s (i + 3) 0
    ∷ get_or s (i + 4) 0 ∷ get_or s (i + 5) 0 ∷ get_or s (i + 6) 0 ∷ get_or s (i + 7) 0 ∷ []) ≡ eight_at s i
unfolding eight_at four_at
eight-le s i =
    let e₅ : get_or s (i + 4 + 1) 0 ≡ get_or s (i + 5) 0 = ap (λ k. get_or s k 0) (omega arith) in
    let e₆ : get_or s (i + 4 + 2) 0 ≡ get_or s (i + 6) 0 = ap (λ k. get_or s k 0) (omega arith) in
    let e₇ : get_or s (i + 4 + 3) 0 ≡ get_or s (i + 7) 0 = ap (λ k. get_or s k 0) (omega arith) in
    omega (arith, e₅, e₆, e₇)

pub block_read : (s t : List ℕ) (i : ℕ) {p q p₁ q₁ p₂ q₂ p₃ q₃ : ℕ} → p ≡ eight_at s i → q ≡ eight_at t i
    → p₁ ≡ eight_at s (i + 8) → q₁ ≡ eight_at t (i + 8) → p₂ ≡ eight_at s (i + 16) → q₂ ≡ eight_at t (i + 16)
    → p₃ ≡ eight_at s (i + 24) → q₃ ≡ eight_at t (i + 24) → (eqb p q && eqb p₁ q₁ && eqb p₂ q₂ && eqb p₃ q₃) ≡ block_same s t i
unfolding block_same
block_read s t i h g h₁ g₁ h₂ g₂ h₃ g₃ = cc

-- the lowest byte and the rest
low : (x p y q : ℕ) → x < 256 → y < 256 → x + 256 * p ≡ y + 256 * q → (x ≡ y) × (p ≡ q)
low x p y q f g e = (omega arith, omega arith)

-- by the rest, and its rest
nested : (a b c d : ℕ) → from_four a b c d ≡ a + 256 * (b + 256 * (c + 256 * d))
nested a b c d = omega arith

-- no byte compared
pub agree-none : (s t : List ℕ) → Agree s t 0
agree-none s t = record { below = λ k h. absurd (omega arith) }

module _ (s t : List ℕ) (b : Bytes s) (c : Bytes t) where
  -- equal numbers stand for equal bytes
  four-each : (i : ℕ) → four_at s i ≡ four_at t i → (get_or s i 0 ≡ get_or t i 0) × (get_or s (i + 1) 0 ≡ get_or t (i + 1) 0)
      × (get_or s (i + 2) 0 ≡ get_or t (i + 2) 0) × (get_or s (i + 3) 0 ≡ get_or t (i + 3) 0)
  unfolding four_at
  four-each i e =
      let x : ℕ → ℕ = λ k. get_or s (i + k) 0 in
      let y : ℕ → ℕ = λ k. get_or t (i + k) 0 in
      let whole = sym (nested (get_or s i 0) (x 1) (x 2) (x 3)) ∙ (e ∙ nested (get_or t i 0) (y 1) (y 2) (y 3)) in
      let p = x 1 + 256 * (x 2 + 256 * x 3) in
      let q = y 1 + 256 * (y 2 + 256 * y 3) in
      let r₀ = low (get_or s i 0) p (get_or t i 0) q (b.byte i) (c.byte i) whole in
      let r₁ = low (x 1) (x 2 + 256 * x 3) (y 1) (y 2 + 256 * y 3) (b.byte (i + 1)) (c.byte (i + 1)) r₀.1 in
      let r₂ = low (x 2) (x 3) (y 2) (y 3) (b.byte (i + 2)) (c.byte (i + 2)) r₁.1 in
      (r₀.0, r₁.0, r₂.0, r₂.1)

  -- so the strings agree at each of the four
  four-agree : (i : ℕ) → four_at s i ≡ four_at t i → (k : ℕ) → i ≤ k → k < i + 4 → get_or s k 0 ≡ get_or t k 0
  four-agree i e k l h = subst (λ j. get_or s j 0 ≡ get_or t j 0) sum (by (k - i) less)
    where
      sum : i + (k - i) ≡ k
      sum = omega arith

      less : k - i < 4
      less = omega arith

      by : (m : ℕ) → m < 4 → get_or s (i + m) 0 ≡ get_or t (i + m) 0
      by zero h = subst (λ j. get_or s j 0 ≡ get_or t j 0) (sym (add-zero i)) (four-each i e).0
      by (suc zero) h = (four-each i e).1
      by (suc (suc zero)) h = (four-each i e).2
      by (suc (suc (suc zero))) h = (four-each i e).3
      by (suc (suc (suc (suc m)))) h = absurd (omega arith)

  -- four bytes more, of which some may have been compared before
  agree-four : (i j : ℕ) → j ≤ i → Agree s t i → four_at s j ≡ four_at t j → Agree s t (j + 4)
  agree-four i j l g e = record { below = λ k h. by k h (dec_lt k i) }
    where
      by : (k : ℕ) → k < j + 4 → Dec (k < i) → get_or s k 0 ≡ get_or t k 0
      by k h (yes y) = g.below k y
      by k h (no n) = four-agree j e k (omega arith) h

  -- the low half and the high half of eight
  halves : (i : ℕ) → eight_at s i ≡ eight_at t i → (four_at s i ≡ four_at t i) × (four_at s (i + 4) ≡ four_at t (i + 4))
  unfolding eight_at
  halves i e =
      let f = four-small s b i in
      let g = four-small t c i in
      (omega arith, omega arith)

  -- eight bytes more
  pub agree-eight : (i j : ℕ) → j ≤ i → Agree s t i → eight_at s j ≡ eight_at t j → Agree s t (j + 8)
  agree-eight i j l g e =
      let h = halves j e in
      let g₁ = agree-four i j l g h.0 in
      let g₂ = agree-four (j + 4) (j + 4) (omega arith) g₁ h.1 in
      record { below = λ k m. g₂.below k (omega arith) }

  -- 32 bytes more
  pub agree-block : (i : ℕ) → Agree s t i → block_same s t i ≡ true → Agree s t (i + 32)
  unfolding block_same
  agree-block i g h =
      let x = eqb (eight_at s i) (eight_at t i) in
      let y = eqb (eight_at s (i + 8)) (eight_at t (i + 8)) in
      let z = eqb (eight_at s (i + 16)) (eight_at t (i + 16)) in
      let w = eqb (eight_at s (i + 24)) (eight_at t (i + 24)) in
      let h₃ = (and-eq-true_iff (x && y && z) w).0 h in
      let h₂ = (and-eq-true_iff (x && y) z).0 h₃.0 in
      let h₁ = (and-eq-true_iff x y).0 h₂.0 in
      let g₁ = agree-eight i i (omega arith) g (eqb-true _ _ h₁.0) in
      let g₂ = agree-eight (i + 8) (i + 8) (omega arith) g₁ (eqb-true _ _ h₁.1) in
      let g₃ = agree-eight (i + 8 + 8) (i + 16) (omega arith) g₂ (eqb-true _ _ h₂.1) in
      let g₄ = agree-eight (i + 16 + 8) (i + 24) (omega arith) g₃ (eqb-true _ _ h₃.1) in
      record { below = λ k l. g₄.below k (omega arith) }

-- strings that differ in four bytes or in eight are not the same
four-not : (s t : List ℕ) (i : ℕ) → (four_at s i ≡ four_at t i → ⊥) → same s t ≡ false
four-not s t i ne = same_false s t (λ e. ne (ap (λ l. four_at l i) e))

pub eight-not : (s t : List ℕ) (i : ℕ) → (eight_at s i ≡ eight_at t i → ⊥) → same s t ≡ false
eight-not s t i ne = same_false s t (λ e. ne (ap (λ l. eight_at l i) e))

module _ (s t : List ℕ) (b : Bytes s) (c : Bytes t) (l : length s ≡ length t) where
  -- strings that agree up to their end are the same
  agree-all : (i : ℕ) → length s ≤ i → Agree s t i → same s t ≡ true
  agree-all i h g = same-each s t l (λ k z. g.below k (omega arith))

  -- the last eight bytes decide, where the strings agree so far
  pub last-eight : (i j : ℕ) → j ≤ i → j + 8 ≡ length s → Agree s t i → {p q : ℕ} → p ≡ eight_at s j → q ≡ eight_at t j
      → eqb p q ≡ same s t
  last-eight i j h e g {p} {q} hp hq = by (ℕ_discrete p q)
    where
      by : Dec (p ≡ q) → eqb p q ≡ same s t
      by (yes y) = eq-eqb p q y ∙ sym (agree-all (j + 8) (omega arith) (agree-eight s t b c i j h g (sym hp ∙ (y ∙ hq))))
      by (no n) = ne_eqb p q n ∙ sym (eight-not s t j (λ z. n (hp ∙ (z ∙ sym hq))))

  -- the first four and the last four decide for up to eight bytes
  pub ends-four : (j : ℕ) → j ≤ 4 → j + 4 ≡ length s → {p q p₁ q₁ : ℕ} → p ≡ four_at s 0 → q ≡ four_at t 0 → p₁ ≡ four_at s j → q₁ ≡ four_at t j
      → (eqb p q && eqb p₁ q₁) ≡ same s t
  ends-four j h e {p} {q} {p₁} {q₁} hp hq hp₁ hq₁ = by (ℕ_discrete p q) (ℕ_discrete p₁ q₁)
    where
      by : Dec (p ≡ q) → Dec (p₁ ≡ q₁) → (eqb p q && eqb p₁ q₁) ≡ same s t
      by (no n) d = rw (ne_eqb p q n) (sym (four-not s t 0 (λ z. n (hp ∙ (z ∙ sym hq)))))
      by (yes y) (no n) = rw (eq-eqb p q y, ne_eqb p₁ q₁ n) (sym (four-not s t j (λ z. n (hp₁ ∙ (z ∙ sym hq₁)))))
      by (yes y) (yes z) =
          let g₁ = agree-four s t b c 0 0 (omega arith) (agree-none s t) (sym hp ∙ (y ∙ hq)) in
          let g₂ = agree-four s t b c 4 j h g₁ (sym hp₁ ∙ (z ∙ hq₁)) in
          rw (eq-eqb p q y, eq-eqb p₁ q₁ z) (sym (agree-all (j + 4) (omega arith) g₂))
