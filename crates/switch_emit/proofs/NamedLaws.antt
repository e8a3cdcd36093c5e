-- docs/PORT.md names this law of a default block by its word.
use Prim.Native.Nat.{ℕ, zero, suc}
use mathlib.Core.Path.{◌≡◌, refl}
use mathlib.Core.Bool.{true}
use Rattle.switch_model.specs.Change.{has_default}

pub default_is : (def : ℕ) → (def ≡ 0 → ⊥) → true ≡ has_default def
unfolding has_default
default_is zero h = absurd (h refl)
default_is (suc k) h = refl
