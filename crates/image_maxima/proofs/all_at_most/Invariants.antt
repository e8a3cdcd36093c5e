-- `image_maxima::all_at_most` meets its contract. Invariant: words l to r - 1 are at most x just where the leaves asked for are.
use Prim.Native.Nat.{◌+◌, ◌*◌, ◌-◌, ◌≤◌}
use Rattle.image_maxima.specs.Tree.{Tree}
use Rattle.image_maxima.proofs.LevelLaws.{Level}
use Rattle.image_maxima.proofs.all_at_most.Given as goal

abbrev pub invariant-loop-l : goal.invariant-loop-l
invariant-loop-l l = (l.r ≤ 2 * l.size) × (Tree l.t l.size → Level l.t l.size (l.a + l.size) (l.b + l.size) l.x l.l l.r)

abbrev pub decreases-loop-l : goal.decreases-loop-l
decreases-loop-l l = l.r - l.l
