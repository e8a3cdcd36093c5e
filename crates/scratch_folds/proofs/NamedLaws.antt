-- docs/PORT.md names this law of a power by squares; the loop that used it is gone, so it asks only that p is a word.
use Prim.Native.Nat.{ℕ, zero, suc, ◌<◌}
use mathlib.Core.Path.{◌≡◌}
use native.Mathlib.Omega.{arith}
use Rattle.scratch_folds.specs.Sums.{times}

-- the power so far, with one bit more
unfoldable pub taken : ℕ → ℕ → ℕ → ℕ
taken zero p a = p
taken (suc bit) p a = times p a

pub taken_word : (a p : ℕ) → p < 4294967296 → (bit q : ℕ) → q ≡ taken bit p a → q < 4294967296
unfolding taken
taken_word a p w zero q t = omega arith
taken_word a p w (suc bit) q t = omega arith
