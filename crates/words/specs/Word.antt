-- Numbers of a byte string. A word is 32 bits, little-endian: word i takes the bytes 4 i to 4 i + 3. A byte past the end, and a
-- word that is not there whole, reads as 0.
use Rattle.std.specs.Prelude.{ℕ, ◌+◌, ◌*◌, List, [], ◌∷◌, get_or, drop}

-- byte i of the string
abbrev pub byte_of : List ℕ → ℕ → ℕ
byte_of s i = get_or s i 0

-- the number that four bytes stand for, the lowest first
abbrev pub from_bytes : ℕ → ℕ → ℕ → ℕ → ℕ
from_bytes a b c d = a + 256 * b + 65536 * c + 16777216 * d

-- the number that the first four bytes of a string stand for; 0 where there are fewer
abbrev pub front : List ℕ → ℕ
front [] = 0
front (a ∷ []) = 0
front (a ∷ b ∷ []) = 0
front (a ∷ b ∷ c ∷ []) = 0
front (a ∷ b ∷ c ∷ d ∷ r) = from_bytes a b c d

-- word i of the string
unfoldable pub word : List ℕ → ℕ → ℕ
word s i = front (drop (4 * i) s)
