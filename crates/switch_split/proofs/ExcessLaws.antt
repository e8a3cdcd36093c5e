-- The words of an integer and its excess number determine each other.
use Prim.Native.Nat.{ℕ, ◌^◌, ◌<◌}
use mathlib.Core.Path.{◌≡◌}
use native.Mathlib.Omega.{arith}
use Rattle.switch_split.specs.Excess.{shifted, excess, low_word, high_word}

pub excess-below : (lo hi : ℕ) → excess lo hi < 2 ^ 64
unfolding shifted excess
excess-below lo hi = omega arith

pub excess-words : (e : ℕ) → e < 2 ^ 64 → excess (low_word e) (high_word e) ≡ e
unfolding shifted excess low_word high_word
excess-words e h = omega arith
