-- `same` is equality of byte strings.
use Prim.Native.Nat.{ℕ, ◌<◌}
use mathlib.Core.Path.{◌≡◌, refl, ap, ap₂, sym, ◌∙◌}
use mathlib.Core.Bool.{true, false, ◌&&◌, false≢true, and-eq-true_iff}
use mathlib.Core.List.{List, [], ◌∷◌}
use lib.Dec.{eqb}
use lib.ListN.{length, get_or}
use lib.Seq.{ext_get_or}
use borrow.Author.Tests.{eqb-true, eq-eqb}
use Rattle.laws.proofs.Bool.{false-unless, and-lazy}
use Rattle.text.specs.Same.{same}
use Rattle.std.specs.Cmp.Lexicographic.{pointwise}

same-cons : (a : ℕ) (x : List ℕ) (b : ℕ) (y : List ℕ) → same (a ∷ x) (b ∷ y) ≡ (eqb a b && same x y)
unfolding same
same-cons a x b y = and-lazy (eqb a b) (same x y)

-- a string is the same as itself
pub same_refl : (x : List ℕ) → same x x ≡ true
unfolding same
same_refl [] = refl
same_refl (a ∷ x) = rw same-cons ((and-eq-true_iff (eqb a a) (same x x)).1 (eq-eqb a a refl, same_refl x))

-- strings that are the same are equal
pub same_true : (x y : List ℕ) → same x y ≡ true → x ≡ y
unfolding same
same_true [] [] h = refl
same_true [] (b ∷ y) h = absurd (false≢true h)
same_true (a ∷ x) [] h = absurd (false≢true h)
same_true (a ∷ x) (b ∷ y) h =
    let both = (and-eq-true_iff (eqb a b) (same x y)).0 (rw same-cons at h) in
    ap₂ ◌∷◌ (eqb-true a b both.0) (same_true x y both.1)

-- strings that differ are not the same
pub same_false : (x y : List ℕ) → (x ≡ y → ⊥) → same x y ≡ false
same_false x y ne = false-unless (same x y) (λ h. ne (same_true x y h))

-- strings of different lengths are not the same
pub same-lengths : (x y : List ℕ) → (length x ≡ length y → ⊥) → same x y ≡ false
same-lengths x y ne = same_false x y (λ e. ne (ap length e))

-- strings that differ at an index are not the same
pub same_at : (x y : List ℕ) (i : ℕ) → (get_or x i 0 ≡ get_or y i 0 → ⊥) → same x y ≡ false
same_at x y i ne = same_false x y (λ e. ne (ap (λ l. get_or l i 0) e))

-- strings of one length that agree at each index are the same
pub same-each : (x y : List ℕ) → length x ≡ length y → ((i : ℕ) → i < length x → get_or x i 0 ≡ get_or y i 0) → same x y ≡ true
same-each x y l at = rw (ext_get_or 0 x y l at) (same_refl y)

-- equality of each two bytes, as std has it
pub pointwise-same : (x y : List ℕ) → pointwise eqb x y ≡ same x y
unfolding same
pointwise-same [] [] = refl
pointwise-same [] (b ∷ y) = refl
pointwise-same (a ∷ x) [] = refl
pointwise-same (a ∷ x) (b ∷ y) = ap (λ t. eqb a b && t) (pointwise-same x y) ∙ sym (same-cons a x b y)
