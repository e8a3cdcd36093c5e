-- The examples of RFC 3629, section 7, and strings that its sections 3 and 10 rule out, as antt computes them.
use Prim.Native.Nat.{ℕ}
use mathlib.Core.Path.{◌≡◌, refl}
use mathlib.Core.Bool.{true, false}
use mathlib.Core.List.{List, [], ◌∷◌, map}
use Rattle.text.specs.Utf8.{row_in, row_of, utf8_rest, utf8}

-- "A<NOT IDENTICAL TO><ALPHA>.", "hangugeo", "nihongo", and a byte order mark before U+233B4
right : List (List ℕ)
right =
    (0x41 ∷ 0xE2 ∷ 0x89 ∷ 0xA2 ∷ 0xCE ∷ 0x91 ∷ 0x2E ∷ [])
    ∷ (0xED ∷ 0x95 ∷ 0x9C ∷ 0xEA ∷ 0xB5 ∷ 0xAD ∷ 0xEC ∷ 0x96 ∷ 0xB4 ∷ [])
    ∷ (0xE6 ∷ 0x97 ∷ 0xA5 ∷ 0xE6 ∷ 0x9C ∷ 0xAC ∷ 0xE8 ∷ 0xAA ∷ 0x9E ∷ [])
    ∷ (0xEF ∷ 0xBB ∷ 0xBF ∷ 0xF0 ∷ 0xA3 ∷ 0x8E ∷ 0xB4 ∷ [])
    ∷ []

-- U+0000 in two bytes, "." of "/../" in two bytes, a pair of surrogates, a byte past U+10FFFF, and a character that is cut short
wrong : List (List ℕ)
wrong =
    (0xC0 ∷ 0x80 ∷ [])
    ∷ (0x2F ∷ 0xC0 ∷ 0xAE ∷ 0x2E ∷ 0x2F ∷ [])
    ∷ (0xED ∷ 0xA1 ∷ 0x8C ∷ 0xED ∷ 0xBE ∷ 0xB4 ∷ [])
    ∷ (0xF4 ∷ 0x90 ∷ 0x80 ∷ 0x80 ∷ [])
    ∷ (0xE6 ∷ 0x97 ∷ [])
    ∷ []

right-utf8 : map utf8 right ≡ true ∷ true ∷ true ∷ true ∷ []
unfolding right utf8 utf8_rest row_of row_in
right-utf8 = refl

wrong-utf8 : map utf8 wrong ≡ false ∷ false ∷ false ∷ false ∷ false ∷ []
unfolding wrong utf8 utf8_rest row_of row_in
wrong-utf8 = refl
