-- A table row: a sheet, the lengths of image and scratch in words, and the oracle's answer. Bytes and words are written as one
-- hexadecimal number in reading order, two digits a byte and eight a word, with their count beside it.
use Rattle.std.specs.Prelude.{ℕ, zero, suc, ◌/◌, ◌%◌, ◌^◌, Bool, true, false, List, [], ◌∷◌, eqb}
use Rattle.text.specs.Same.{same}
use Rattle.refusals.specs.Refusal.{refusal_number}
use Rattle.lowering.specs.Outcome.{Outcome, refused, image}
use Rattle.lowering.specs.Compute.{answer}

-- number is 0 where the sheet is lowered
pub record Row : Type 0 where
  pub bytes : ℕ
  pub sheet : ℕ
  pub image_length : ℕ
  pub scratch_length : ℕ
  pub number : ℕ
  pub words : ℕ
  pub answers : ℕ

abbrev pub row : ℕ → ℕ → ℕ → ℕ → ℕ → ℕ → ℕ → Row
row n s i t r m w =
    record { bytes = n; sheet = s; image_length = i; scratch_length = t; number = r; words = m; answers = w }

-- n digits of x in a base, the highest first, before a list
unfoldable pub digits : ℕ → ℕ → ℕ → List ℕ → List ℕ
digits base zero x l = l
digits base (suc n) x l = digits base n (x / base) (x % base ∷ l)

unfoldable pub same_outcome : ℕ → List ℕ → Outcome → Bool
same_outcome number words (refused r) = eqb number (refusal_number r)
same_outcome number words (image l) = elim (eqb number 0) [ true ↦ same words l | false ↦ false ]

unfoldable pub agrees : Row → Bool
agrees r =
    same_outcome
    r.number
    (digits (2 ^ 32) r.words r.answers [])
    (answer (digits 256 r.bytes r.sheet []) r.image_length r.scratch_length)

unfoldable pub all_agree : List Row → Bool
unfolding digits same_outcome agrees answer same
all_agree [] = true
all_agree (r ∷ rs) = elim (agrees r) [ true ↦ all_agree rs | false ↦ false ]
