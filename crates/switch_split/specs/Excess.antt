-- Signed 64-bit integers as numbers from 0: the integer plus 2 ^ 63 (excess-2^63 representation). The order of the integers is then the
-- order of the numbers, from 0 for the least integer to 2 ^ 64 - 1 for the greatest.
use Rattle.std.specs.Prelude.{ℕ, ◌+◌, ◌*◌, ◌/◌, ◌%◌, ◌^◌, ℤ}
use Rattle.std.specs.Int.{w64}
use Rattle.std.proofs.Common.{of_z}

-- from the 64 bits of an integer to its excess, and, since 2 ^ 63 twice is 2 ^ 64, back
unfoldable pub shifted : ℕ → ℕ
shifted b = (b + 2 ^ 63) % 2 ^ 64

-- the integer whose bits have the low word lo and the high word hi
unfoldable pub excess : ℕ → ℕ → ℕ
excess lo hi = shifted (lo + 2 ^ 32 * hi)

-- and back: the low and the high word of its bits
unfoldable pub low_word : ℕ → ℕ
low_word e = shifted e % 2 ^ 32

unfoldable pub high_word : ℕ → ℕ
high_word e = shifted e / 2 ^ 32

-- the integer that an i64 of the code holds
unfoldable pub excess_of : ℤ → ℕ
excess_of z = shifted (of_z w64 z)
