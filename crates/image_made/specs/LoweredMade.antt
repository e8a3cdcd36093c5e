-- Every image that a sheet is lowered to is well made for that sheet.
use Rattle.std.specs.Prelude.{ℕ, ◌≡◌, List}
use Rattle.lowering.specs.Outcome.{image, outcome}
use Rattle.image_rule.specs.WellMade.{WellMade}

abbrev pub Statement : Type 0
Statement = (s : List ℕ) (image_length scratch_length : ℕ) (w : List ℕ) → outcome s image_length scratch_length ≡ image w → WellMade s w
