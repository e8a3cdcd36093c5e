-- `edges::sheets::put_ranges` is safe.
use mathlib.Core.Path.{◌≡◌}
use lib.ListN.{length}
use Rattle.edges.proofs.sheets.put_ranges.Given as goal

abbrev pub invariant-loop-i : goal.invariant-loop-i
invariant-loop-i l = length l.sheet ≡ length l.initial.sheet
