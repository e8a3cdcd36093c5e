-- `write_sections::steps` meets its contract. Invariant: the steps of the first i chains are written, and the next stand at `at`. Where the
-- part has the length of them all, they are within it.
use Prim.Native.Nat.{◌≤◌, ◌*◌}
use mathlib.Core.Path.{◌≡◌}
use lib.ListN.{length, take}
use Rattle.write_sections.specs.Written.{Written}
use Rattle.scratch_index.specs.Held.{NamesHold, names_held}
use Rattle.lowering.specs.Limits.{step_width}
use Rattle.expr_chains.specs.Kept.{step_count}
use Rattle.write_sections.proofs.StepRows.{all_rows}
use Rattle.write_sections.proofs.steps.Given as goal

abbrev pub invariant-loop-j : goal.invariant-loop-j
invariant-loop-j l =
    (l.at ≡ step_width * step_count l.names.sheet.now (take l.j-index l.js)) × (l.at ≤ length l.initial.out)
    × (length l.out ≡ length l.initial.out) ×
    (NamesHold l.names.sheet.now l.names.layout l.names.count l.names.scratch.now
    → length l.initial.out ≡ step_width * step_count l.names.sheet.now l.js
    → Written l.initial.out l.out
    (all_rows l.names.sheet.now (names_held l.names.sheet.now l.names.layout l.names.count l.names.scratch.now) l.js l.j-index))
