-- `switch_intervals::place_of` meets its contract. The invariant is `Finding`: the place is from lo to hi. The measure is their distance.
use Prim.Native.Nat.{◌-◌}
use Rattle.switch_intervals.proofs.SearchLaws.{Finding}
use Rattle.switch_intervals.proofs.place_of.Given as goal

abbrev pub invariant-loop-lo : goal.invariant-loop-lo
invariant-loop-lo l = Finding l.cuts l.v l.lo l.hi

abbrev pub decreases-loop-lo : goal.decreases-loop-lo
decreases-loop-lo l = l.hi - l.lo
