-- Laws of the depth, in the shapes of the code.
use Prim.Native.Nat.{ℕ, zero, suc, ◌-◌}
use mathlib.Core.Path.{◌≡◌, refl, ap, ◌∙◌}
use mathlib.Core.Bool.{true, false}
use mathlib.Core.List.{List}
use native.Mathlib.Omega.{arith}
use native.Mathlib.Numerals.{sub-one}
use Rattle.sheet.specs.Node.{count, child}
use Rattle.sheet.specs.Walk.{siblings_by, siblings}
use Rattle.check_depth.specs.Depth.{within_by, within}

pub within_none : (left : ℕ) (s : List ℕ) (n : ℕ) → left ≡ 0 → within left s n ≡ false
unfolding within_by
within_none zero s n e = refl
within_none (suc left) s n e = absurd (omega arith)

pub within-some : (left : ℕ) (s : List ℕ) (n : ℕ) → (left ≡ 0 → ⊥)
    → within left s n ≡ siblings (within (left - 1) s) s (count s n) (child n)
unfolding within_by
within-some zero s n ne = absurd (ne refl)
within-some (suc left) s n ne = rw sub-one

pub within_leaf : (left : ℕ) (s : List ℕ) (n : ℕ) → (left ≡ 0 → ⊥) → count s n ≡ 0 → within left s n ≡ true
unfolding siblings_by
within_leaf left s n ne e = within-some left s n ne ∙ ap (λ m. siblings (within (left - 1) s) s m (child n)) e
