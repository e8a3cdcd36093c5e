-- The words of a switch table, of a row of cases and of a row of ranges.
use Rattle.std.specs.Prelude.{ℕ, ◌/◌, ◌%◌, ◌^◌, List, [], ◌∷◌}
use Rattle.bytecode.specs.declared.Switch.{Switch}
use Rattle.bytecode.specs.declared.SwitchCase.{SwitchCase}
use Rattle.bytecode.specs.declared.SwitchRange.{SwitchRange}

unfoldable pub switch_words : Switch → List ℕ
switch_words t = t.ranged ∷ t.first ∷ t.rows ∷ t.default ∷ []

unfoldable pub case_words : SwitchCase → List ℕ
case_words r = r.target ∷ r.constant ∷ []

-- low and high word of both ends, inclusive, target
unfoldable pub range_words : SwitchRange → List ℕ
range_words r =
    r.from % 2 ^ 32 ∷ r.from / 2 ^ 32 ∷ r.to % 2 ^ 32 ∷ r.to / 2 ^ 32 ∷ r.inclusive ∷ r.target ∷ []
