-- The cycle of calls {within}: the levels left fall by one at each call. Invariant of the walk: what is left of it equals the whole.
use mathlib.Core.Path.{◌≡◌}
use Prim.Native.Nat.{◌-◌}
use Rattle.std.specs.List.{list_all}
use Rattle.sheet.specs.Rest.{rest}
use Rattle.check_depth.specs.Depth as depths
use Rattle.check_depth.proofs.+within.Given as goal

abbrev pub decreases-within : goal.decreases-within
decreases-within l = l.left

abbrev pub invariant-loop-j : goal.invariant-loop-j
invariant-loop-j l = list_all (depths.within (l.left - 1) l.sheet) (rest l.j-iterator) ≡ depths.within l.left l.sheet l.n
