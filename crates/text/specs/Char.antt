-- The character that a byte string starts with, by its length.
use Rattle.std.specs.Prelude.{ℕ, zero, suc, Bool, true, false, List, [], ◌∷◌}
use Rattle.text.specs.Utf8.{within, row_of}

-- a string starts with n tail bytes, the first of them from low to high
unfoldable pub tails_ok : ℕ → ℕ → ℕ → List ℕ → Bool
tails_ok zero low high s = true
tails_ok (suc n) low high [] = false
tails_ok (suc n) low high (b ∷ s) = elim (within low high b) [ true ↦ tails_ok n 0x80 0xBF s | false ↦ false ]

-- n where a test has passed, else 0
abbrev pub or_zero : Bool → ℕ → ℕ
or_zero true n = n
or_zero false n = 0

-- the length of the character that a string starts with, 0 if it starts with none
unfoldable pub char_length : List ℕ → ℕ
char_length [] = 0
char_length (b ∷ s) = let r = row_of b in or_zero (tails_ok r.tails r.low r.high s) (suc r.tails)
