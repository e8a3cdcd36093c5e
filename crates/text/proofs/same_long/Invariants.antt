-- `text::same_long` meets its contract. The loop's invariant: the strings agree below i. Assumes nothing.
use Prim.Native.Nat.{◌-◌, ◌≤◌}
use Rattle.text.specs.Eight.{Agree}
use Rattle.text.proofs.same_long.Given as goal

abbrev pub invariant-loop-i : goal.invariant-loop-i
invariant-loop-i l = (l.i ≤ l.n) × Agree l.a l.b l.i

abbrev pub decreases-loop-i : goal.decreases-loop-i
decreases-loop-i l = l.n - l.i
