-- The order of the code's signed integers is the order of their excess numbers.
use Prim.Native.Nat.{ℕ, suc, ◌-◌, ◌^◌, ◌≤◌, ◌<◌}
use mathlib.Core.Path.{◌≡◌, refl, sym, ◌∙◌, ap}
use mathlib.Core.Bool.{Bool, true, false}
use native.Mathlib.Omega.{arith}
use lib.Dec.{leb, ltb}
use lib.IntN.{ℤ, pos, negsuc}
use lib.Signed.{lt_z}
use mir.Syntax.{w64}
use mir.Val.{of_z, to_z, SFits}
use mir.ValLaws.{of_z-to_z, to_z-Fits, of_z_fits}
use borrow.Author.Tests.{leb-true, leb-false, le-leb, lt-leb}
use Rattle.switch_split.specs.Excess.{shifted, excess_of}

-- an integer, as the code reads it back from its bits
abbrev pub as_read : ℤ → ℤ
as_read z = to_z w64 (of_z w64 z)

-- tests that pass together are equal
same_test : (a b c d : ℕ) → (a ≤ b → c ≤ d) → (b < a → d < c) → leb a b ≡ leb c d
same_test a b c d f g = by (leb a b) refl
  where
    by : (t : Bool) → leb a b ≡ t → leb a b ≡ leb c d
    by true e = e ∙ sym (le-leb c d (f (leb-true a b e)))
    by false e = e ∙ sym (lt-leb c d (g (leb-false a b e)))

-- the bits of the negative number -(n + 1)
abbrev low : ℕ → ℕ
low n = 2 ^ 64 - suc n

pub below : (a b : ℤ) → SFits w64 a → SFits w64 b → lt_z a b ≡ ltb (excess_of a) (excess_of b)
unfolding shifted excess_of
below (pos m) (pos n) f g = same_test (suc m) n (suc (shifted m)) (shifted n) (λ u. omega arith) (λ u. omega arith)
below (pos m) (negsuc n) f g = sym (lt-leb (suc (shifted m)) (shifted (low n)) (omega arith))
below (negsuc m) (pos n) f g = sym (le-leb (suc (shifted (low m))) (shifted n) (omega arith))
below (negsuc m) (negsuc n) f g = same_test (suc n) m (suc (shifted (low m))) (shifted (low n)) (λ u. omega arith) (λ u. omega arith)

-- bits read as signed, and what was stored as bits reads back
pub stored : (x : ℕ) → x < 2 ^ 64 → excess_of (to_z w64 x) ≡ shifted x
unfolding excess_of
stored x h = ap shifted (of_z-to_z w64 x (record { fits = h }))

-- of two integers by their bits
pub below-bits : (x y : ℕ) → x < 2 ^ 64 → y < 2 ^ 64 → lt_z (to_z w64 x) (to_z w64 y) ≡ ltb (shifted x) (shifted y)
below-bits x y h k =
    cc (below (to_z w64 x) (to_z w64 y) (to_z-Fits w64 x (record { fits = h })) (to_z-Fits w64 y (record { fits = k })), stored x h, stored y k)

-- and from an integer to its bits and back
pub bits_back : (z : ℤ) → SFits w64 z → shifted (excess_of z) ≡ of_z w64 z
unfolding shifted excess_of
bits_back z f = omega (arith, (of_z_fits w64 z f).fits)
