-- `switch_intervals::CutList::put` meets its contract. The invariant is `Cutting`: the words of the cuts passed stand in the table.
use Rattle.switch_intervals.proofs.CutsLaws.{Cutting}
use Rattle.switch_intervals.proofs.CutList.put.Given as goal

abbrev pub invariant-loop-i : goal.invariant-loop-i
invariant-loop-i l = Cutting l.self.at.now l.initial.table.cells l.table.cells l.i
