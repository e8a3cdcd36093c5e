-- `edges::sheets::put_leaves` is safe.
use mathlib.Core.Path.{◌≡◌}
use lib.ListN.{length}
use Rattle.edges.proofs.sheets.put_leaves.Given as goal

abbrev pub invariant-loop-n : goal.invariant-loop-n
invariant-loop-n l = length l.sheet ≡ length l.initial.sheet
