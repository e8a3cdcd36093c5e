-- docs/PORT.md names these laws of integers and their bits; the code casts by the library now.
use Prim.Native.Nat.{ℕ, ◌+◌, ◌*◌, ◌^◌, ◌<◌}
use mathlib.Core.Path.{◌≡◌, ap}
use mathlib.Core.Bool.{false, true≢false}
use native.Mathlib.Omega.{arith}
use lib.Dec.{T}
use lib.IntN.{ℤ, pos, negsuc, nat_abs}
use lib.Signed.{non_neg, lt_z}
use mir.Syntax.{w64}
use mir.Val.{of_z, to_z, Fits, SFits}
use mir.ValLaws.{to_z_pos, to_z-of_z}
use Rattle.switch_split.specs.Excess.{excess, excess_of}
use Rattle.switch_split.proofs.OrderLaws.{as_read, stored}

abbrev joined : ℕ → ℕ → ℕ
joined lo hi = lo + 4294967296 * hi

pub from_low : (lo hi : ℕ) (h : lo < 2 ^ 32) (k : hi < 2 ^ 32) → excess_of (to_z w64 (joined lo hi)) ≡ excess lo hi
unfolding excess
from_low lo hi h k = stored (joined lo hi) (omega arith)

-- what lies in the lower half is cast as it stands
module _ (k : ℕ) (h : k < 2 ^ 63) where
  pub cast_is : nat_abs (to_z w64 k) ≡ k
  cast_is = ap nat_abs (to_z_pos w64 k h)

  pub cast_fits : T (non_neg (to_z w64 k)) × Fits w64 (nat_abs (to_z w64 k))
  cast_fits = rw (to_z_pos w64 k h) (tt, record { fits = omega arith })

pub not_negative : (x : ℤ) → SFits w64 x → lt_z (as_read x) (pos 0) ≡ false → of_z w64 x < 2 ^ 63
not_negative x f t = by x f (rw (to_z-of_z w64 x f) at t)
  where
    by : (z : ℤ) → SFits w64 z → lt_z z (pos 0) ≡ false → of_z w64 z < 2 ^ 63
    by (pos n) g e = g.sfits
    by (negsuc n) g e = absurd (true≢false e)
