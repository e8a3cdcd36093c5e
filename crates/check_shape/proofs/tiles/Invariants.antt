-- `check_shape::tiles` meets its contract. Invariant of the walk: what is left to do from child i on, which is node j, equals the whole.
use mathlib.Core.Path.{◌≡◌}
use Prim.Native.Nat.{◌+◌, ◌-◌, ◌≤◌}
use Rattle.sheet.specs.Node.{count}
use Rattle.check_shape.specs.Shape as shape
use Rattle.check_shape.proofs.tiles.Given as goal

abbrev pub invariant-loop-i : goal.invariant-loop-i
invariant-loop-i l =
    (l.j ≤ l.e) × (shape.tiles (l.v.count - l.i) l.sheet l.n l.e l.i l.j ≡ shape.tiles (count l.sheet l.n) l.sheet l.n l.e 0 (l.n + 1))
