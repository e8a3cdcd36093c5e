-- `switch_places::bodies::bodies` meets its contract. The invariant is `Placing`: the bodies of the blocks passed have their places.
use Prim.Native.Nat.{ℕ, ◌≤◌, ◌<◌}
use mathlib.Core.Path.{◌≡◌}
use mathlib.Core.List.{List}
use Rattle.expr_count.specs.Limits.{cap}
use Rattle.sheet.specs.Limits.{max_depth}
use Rattle.expr_count.specs.Locals.{answer}
use Rattle.expr_count.specs.Count.{Rec, tally_by}
use Rattle.switch_tables.specs.Table.{GuardsBy}
use Rattle.switch_tables.specs.Planned.{want_in, wanted_by}
use Rattle.switch_places.proofs.BodyLaws.{Placing}
use Rattle.switch_places.proofs.bodies.bodies.Given as goal

abbrev pub invariant-loop-k : goal.invariant-loop-k
invariant-loop-k l =
    let s = l.by.sheet.now in
    let t : Rec = tally_by (answer l.by.told s) max_depth s in
    (ls : List (List ℕ)) (def : ℕ) → l.initial.sum.len ≤ cap → l.initial.sum.emitted ≤ cap → GuardsBy s t l.initial.table.cells l.n
    → ((i : ℕ) → i < l.n → want_in l.initial.table.cells i ≡ wanted_by s def ls i)
    → Placing s t ls def l.n l.initial.sum l.initial.table.cells l.table.cells l.sum l.k
