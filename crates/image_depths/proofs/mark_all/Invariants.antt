-- `image_depths::mark_all` meets its contract. Invariant: the places below p have handed on their marks (`Held`).
use mathlib.Core.Path.{◌≡◌}
use lib.ListN.{length}
use Rattle.image_rule.specs.Marks.{marks_there}
use Rattle.image_rule.proofs.Right.{TablesNamed}
use Rattle.image_depths.specs.Checked.{RowsPooled}
use Rattle.image_depths.proofs.MarkLaws.{Held}
use Rattle.image_depths.proofs.mark_all.Given as goal

abbrev pub invariant-loop-p : goal.invariant-loop-p
invariant-loop-p l =
    let w = l.image.words.now in
    (length l.found ≡ length l.initial.found) × (length l.rows ≡ length l.initial.rows)
    × (TablesNamed w → RowsPooled w → length l.initial.found ≡ marks_there w → Held w l.p l.found l.rows)
