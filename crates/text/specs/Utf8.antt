-- Well-formed UTF-8 by RFC 3629, as a computed test: no overlong form, no surrogate, nothing above U+10FFFF.
-- Rfc3629 has the grammar of the RFC; proofs/Rfc3629Laws shows that the test is that grammar.
use Rattle.std.specs.Prelude.{ℕ, zero, suc, Bool, true, false, ◌&&◌, List, [], ◌∷◌, leb}

-- a byte from low to high
abbrev pub within : ℕ → ℕ → ℕ → Bool
within low high b = leb low b && leb b high

-- what first bytes up to `last` ask for: the number of tail bytes, and the least and the greatest value of the first of them
pub record Row : Type 0 where
  pub last : ℕ
  pub tails : ℕ
  pub low : ℕ
  pub high : ℕ

abbrev pub row : ℕ → ℕ → ℕ → ℕ → Row
row last tails low high = record { last = last; tails = tails; low = low; high = high }

-- bytes from 80 to C1 start no character, nor do those after F4: they ask for a byte from BF to 80, which there is not
abbrev pub rows : List Row
rows =
    row 0x7F 0 0x80 0xBF
    ∷ row 0xC1 1 0xBF 0x80
    ∷ row 0xDF 1 0x80 0xBF
    ∷ row 0xE0 2 0xA0 0xBF
    ∷ row 0xEC 2 0x80 0xBF
    ∷ row 0xED 2 0x80 0x9F
    ∷ row 0xEF 2 0x80 0xBF
    ∷ row 0xF0 3 0x90 0xBF
    ∷ row 0xF3 3 0x80 0xBF
    ∷ row 0xF4 3 0x80 0x8F
    ∷ []

-- the first of the rows that has b
unfoldable pub row_in : List Row → ℕ → Row
row_in [] b = row b 1 0xBF 0x80
row_in (r ∷ rs) b = elim (leb b r.last) [ true ↦ r | false ↦ row_in rs b ]

unfoldable pub row_of : ℕ → Row
row_of b = row_in rows b

-- the rest of a string, where n tail bytes are due and the first of them is from low to high
unfoldable pub utf8_rest : ℕ → ℕ → ℕ → List ℕ → Bool
utf8_rest zero low high [] = true
utf8_rest (suc n) low high [] = false
utf8_rest zero low high (b ∷ s) = let r = row_of b in utf8_rest r.tails r.low r.high s
utf8_rest (suc n) low high (b ∷ s) = elim (within low high b) [ true ↦ utf8_rest n 0x80 0xBF s | false ↦ false ]

-- a string of whole characters
unfoldable pub utf8 : List ℕ → Bool
utf8 s = utf8_rest 0 0x80 0xBF s
