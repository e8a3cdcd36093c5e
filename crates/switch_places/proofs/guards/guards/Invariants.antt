-- `switch_places::guards::guards` meets its contract. The invariant is `Filled`: the guards of the blocks passed are there.
use mathlib.Core.Path.{◌≡◌}
use Rattle.lowering.specs.SwitchSheet.{guard_of}
use Rattle.sheet.specs.Limits.{max_depth}
use Rattle.expr_count.specs.Locals.{answer}
use Rattle.expr_count.specs.Count.{tally_by}
use Rattle.switch_places.proofs.GuardLaws.{Filled}
use Rattle.switch_places.proofs.guards.guards.Given as goal

abbrev pub invariant-loop-k : goal.invariant-loop-k
invariant-loop-k l =
    let s = l.by.sheet.now in
    (l.j ≡ guard_of s l.k) × Filled s (tally_by (answer l.by.told s) max_depth s) l.initial.table.cells l.table.cells l.k
