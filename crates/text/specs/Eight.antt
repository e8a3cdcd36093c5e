-- Four and eight bytes of a string as one number, and 32 bytes compared as four numbers.
use Rattle.std.specs.Prelude.{ℕ, ◌+◌, ◌*◌, ◌<◌, ◌≡◌, Bool, ◌&&◌, List, eqb, get_or}

-- the number that four bytes stand for, the lowest first
abbrev pub from_four : ℕ → ℕ → ℕ → ℕ → ℕ
from_four a b c d = a + 256 * b + 65536 * c + 16777216 * d

-- the four bytes from i on
unfoldable pub four_at : List ℕ → ℕ → ℕ
four_at s i = from_four (get_or s i 0) (get_or s (i + 1) 0) (get_or s (i + 2) 0) (get_or s (i + 3) 0)

-- the eight bytes from i on
unfoldable pub eight_at : List ℕ → ℕ → ℕ
eight_at s i = four_at s i + 4294967296 * four_at s (i + 4)

-- the 32 bytes from i on are the same
unfoldable pub block_same : List ℕ → List ℕ → ℕ → Bool
block_same a b i =
    eqb (eight_at a i) (eight_at b i)
    && eqb (eight_at a (i + 8)) (eight_at b (i + 8))
    && eqb (eight_at a (i + 16)) (eight_at b (i + 16))
    && eqb (eight_at a (i + 24)) (eight_at b (i + 24))

-- the strings agree below i
pub record Agree (s t : List ℕ) (i : ℕ) : Type 0 where
  pub below : (k : ℕ) → k < i → get_or s k 0 ≡ get_or t k 0
