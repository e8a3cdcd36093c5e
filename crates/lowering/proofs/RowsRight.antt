-- The rows of document 01 that are marked P are right, for every position of the Unit node.
use Prim.Native.Nat.{ℕ}
use mathlib.Core.Path.{◌≡◌, refl}
use mathlib.Core.List.{map}
use Rattle.switch_split.specs.Rows.{small, least, greatest, entry}
use Rattle.lowering.specs.Compute.{answer}
use Rattle.lowering.specs.Rows.{unit, and_bool, coalesce_unit, nested, empties, widest, overlapping, call_local, call_named, empty_switch}
use Rattle.lowering.specs.Rows.{default_switch, method_eval, rows, computed}

pub rows_right : (p : ℕ) → map computed (rows p) ≡ rows p
unfolding unit and_bool coalesce_unit nested empties widest overlapping call_local call_named empty_switch default_switch method_eval rows
    computed answer small least greatest entry
rows_right p = refl
