-- Laws of the kinds' rules, one for each way through the code.
use Prim.Native.Nat.{ℕ, ◌+◌, ◌*◌, ◌<◌, ◌≤◌}
use mathlib.Core.Path.{◌≡◌}
use native.Mathlib.Omega.{arith}
use lib.Dec.{eqb}
use borrow.Author.Tests.{le-leb, lt-leb, eq-eqb, ne_eqb}
use Rattle.sheet.specs.Kinds.{int_kind, switch_kind, case_kind, range_kind, ref_kind}
use Rattle.check_shape.specs.Kinds.{expression, case_value, switch_child, case_child, child_kind}

module _ (K b i k : ℕ) where
  pub switch-pairs : i ≤ 2 * K → switch_child K b i k ≡ expression k
  unfolding switch_child
  switch-pairs h = rw (le-leb i (2 * K) h, switch_child)

  pub switch-cases : 2 * K < i → i ≤ 2 * K + b → switch_child K b i k ≡ eqb k case_kind
  unfolding switch_child
  switch-cases g h = rw (lt-leb i (2 * K) g, le-leb i (2 * K + b) h, switch_child)

  pub switch-ranges : 2 * K < i → 2 * K + b < i → switch_child K b i k ≡ eqb k range_kind
  unfolding switch_child
  switch-ranges g h = rw (lt-leb i (2 * K) g, lt-leb i (2 * K + b) h, switch_child)

pub case-first : (i k : ℕ) → i ≡ 0 → case_child i k ≡ case_value k
unfolding case_child
case-first i k h = rw (eq-eqb i 0 h, case_child)

pub case-later : (i k : ℕ) → (i ≡ 0 → ⊥) → case_child i k ≡ eqb k ref_kind
unfolding case_child
case-later i k h = rw (ne_eqb i 0 h, case_child)

module _ (p a b i k : ℕ) where
  pub child-switch : p ≡ switch_kind → child_kind p a b i k ≡ switch_child a b i k
  unfolding child_kind
  child-switch h = rw (eq-eqb p switch_kind h, child_kind)

  pub child-case : p ≡ case_kind → child_kind p a b i k ≡ case_child i k
  unfolding child_kind
  child-case h = rw (ne_eqb p switch_kind (omega arith), eq-eqb p case_kind h, child_kind)

  pub child-range : p ≡ range_kind → child_kind p a b i k ≡ eqb k int_kind
  unfolding child_kind
  child-range h = rw (ne_eqb p switch_kind (omega arith), ne_eqb p case_kind (omega arith), eq-eqb p range_kind h, child_kind)

  pub child-other : (p ≡ switch_kind → ⊥) → (p ≡ case_kind → ⊥) → (p ≡ range_kind → ⊥) → child_kind p a b i k ≡ expression k
  unfolding child_kind
  child-other f g h = rw (ne_eqb p switch_kind f, ne_eqb p case_kind g, ne_eqb p range_kind h, child_kind)
