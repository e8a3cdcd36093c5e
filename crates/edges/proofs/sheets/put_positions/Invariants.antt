-- `edges::sheets::put_positions` is safe.
use mathlib.Core.Path.{◌≡◌}
use lib.ListN.{length}
use Rattle.edges.proofs.sheets.put_positions.Given as goal

abbrev pub invariant-loop-n : goal.invariant-loop-n
invariant-loop-n l = length l.sheet ≡ length l.initial.sheet
