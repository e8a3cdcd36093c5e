-- `switch_intervals::put_bands` meets its contract. The invariant is `OpenJoins`: the bands that end before the
-- piece are there, with their hashes.
use Rattle.switch_intervals.proofs.JoiningLaws.{OpenJoins}
use lib.ListN.{length}
use Rattle.switch_intervals.proofs.put_bands.Given as goal

abbrev pub invariant-loop-i : goal.invariant-loop-i
invariant-loop-i l = OpenJoins l.initial.table.cells (length l.marks) l.marks l.table.cells l.o.0 l.o.1.0 l.i
