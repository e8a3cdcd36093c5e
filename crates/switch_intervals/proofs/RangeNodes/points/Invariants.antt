-- `switch_intervals::RangeNodes::points` meets its contract. The invariant is `Pointing`: the end points of the
-- ranges passed stand in the array.
use Rattle.sheet.specs.Rest.{rest}
use Rattle.switch_intervals.proofs.FirstLaws.{Pointing}
use Rattle.sheet.proofs.WalkedLaws.{Walked}
use Rattle.switch_intervals.proofs.RangeNodes.points.Given as goal

abbrev pub invariant-loop-i : goal.invariant-loop-i
invariant-loop-i l =
    Pointing l.self.sheet.now l.self.first l.self.count l.at l.i-iterator.count
    × Walked l.self.sheet.now l.self.first l.self.count l.i-iterator.count (rest l.i-iterator.iter)
