-- `check_texts::run` meets its contract. The loop's invariant: from i to r there are whole characters. Assumes nothing.
use Prim.Native.Nat.{◌≤◌, ◌-◌}
use mathlib.Core.Path.{◌≡◌}
use mathlib.Core.Bool.{true}
use lib.ListN.{length}
use lib.Seq.{slice}
use Rattle.text.specs.Utf8.{utf8}
use Rattle.check_texts.proofs.run.Given as goal

abbrev pub invariant-loop-r : goal.invariant-loop-r
invariant-loop-r l = (l.i ≤ l.r) × (l.r ≤ length l.sheet) × (utf8 (slice l.i l.r l.sheet) ≡ true)

abbrev pub decreases-loop-r : goal.decreases-loop-r
decreases-loop-r l = l.stop - l.r
