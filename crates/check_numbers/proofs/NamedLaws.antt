-- docs/PORT.md names this law: the test of a node's numbers, on the sheet's counts as they were read.
use Prim.Native.Nat.{ℕ}
use mathlib.Core.Path.{◌≡◌, ap₂, ◌∙◌}
use mathlib.Core.Bool.{Bool}
use mathlib.Core.List.{List}
use Rattle.sheet.specs.Sections.{text_count}
use Rattle.sheet.specs.Node.{field_a}
use Rattle.check_numbers.specs.Numbers.{number_among, number_ok}

pub number_read : (s : List ℕ) (n : ℕ) {X K : ℕ} {r : Bool} → X ≡ text_count s → K ≡ field_a s 0 → r ≡ number_among s X K n
    → r ≡ number_ok s n
number_read s n hX hK h = h ∙ ap₂ (λ X K. number_among s X K n) hX hK
