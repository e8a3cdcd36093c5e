-- An image with its sheet, and the number that the image check gives.
use Rattle.std.specs.Prelude.{ℕ, ◌≡◌, List, [], ◌∷◌, length}
use Rattle.lowering.specs.MakeSheet.{bytes_of}
use Rattle.checks.specs.Checked.{verdict_number}
use Rattle.image_check.specs.Answer.{judged}

pub record Row : Type 0 where
  -- the sheet's words
  pub sheet : List ℕ
  pub image : List ℕ
  pub number : ℕ

abbrev pub row : ℕ → List ℕ → List ℕ → Row
row n s w = record { sheet = s; image = w; number = n }

-- with a scratch that just suffices, the check gives this number
abbrev pub Right : Row → Type 0
Right r = verdict_number (judged (bytes_of r.sheet) r.image (length r.image)) ≡ r.number

unfoldable pub AllRight : List Row → Type 0
AllRight [] = Unit {0}
AllRight (r ∷ rs) = Right r × AllRight rs
