-- The list of blocks of a Case, as the code reads it: no accepted switch has more than 64 Refs in one.
use Rattle.std.specs.Prelude.{ℕ, List, take}
use Rattle.sheet.specs.Limits.{max_entries}
use Rattle.lowering.specs.SwitchSheet.{case_blocks}

abbrev pub case_key : List ℕ → ℕ → List ℕ
case_key s c = take max_entries (case_blocks s c)
