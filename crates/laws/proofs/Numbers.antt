-- Facts of plain numbers that several crates use.
use Prim.Native.Nat.{ℕ, suc, ◌+◌, ◌-◌, ◌≤◌, ◌<◌}
use mathlib.Core.Path.{◌≡◌}
use native.Mathlib.Omega.{arith}

-- what is not 0 is at least 1
pub positive : {n : ℕ} → (n ≡ 0 → ⊥) → 1 ≤ n
positive h = omega arith

-- and has one before it
pub one_less : (n : ℕ) → 0 < n → n ≡ suc (n - 1)
one_less n h = omega arith

-- one more of m is passed: as many are left
pub left_one : (m i : ℕ) → i < m → m - i ≡ suc (m - (i + 1))
left_one m i h = omega arith

-- fewer than before
pub left_less : {i m : ℕ} → i < m → m - (i + 1) < m - i
left_less h = omega arith

-- and no more than m are passed
pub one_more : {i m : ℕ} → i < m → i + 1 ≤ m
one_more h = omega arith
