-- `image_rows::come_table_rows` meets its contract. Invariant: r rows are passed (`Going`).
use Prim.Native.Nat.{◌≤◌, ◌<◌, ◌-◌}
use mathlib.Core.Path.{◌≡◌}
use lib.ListN.{length}
use Rattle.image_rows.specs.Scratch.{Seen}
use Rattle.image_rows.proofs.SeenLaws.{Going}
use Rattle.image_rows.proofs.come_table_rows.Given as goal

abbrev pub invariant-loop-r : goal.invariant-loop-r
invariant-loop-r l =
    let w = l.image.words.now in
    (l.r ≤ l.count) × (length l.found ≡ length l.initial.found) × (length l.rows ≡ length l.initial.rows)
    × (0 < l.m → Seen w l.initial.found l.initial.rows → Going w l.m l.first l.count l.initial.found l.initial.rows l.r l.found l.rows)

abbrev pub decreases-loop-r : goal.decreases-loop-r
decreases-loop-r l = l.count - l.r
