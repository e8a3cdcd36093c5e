-- `image_rows::count_image_runs` meets its contract. Invariant: the runs that end at the first q rows are counted (`Counting`).
use mathlib.Core.Path.{◌≡◌}
use lib.ListN.{length}
use Rattle.image_rows.proofs.RunLaws.{Counting}
use Rattle.image_rows.proofs.count_image_runs.Given as goal

abbrev pub invariant-loop-q : goal.invariant-loop-q
invariant-loop-q l =
    (length l.rows ≡ length l.initial.rows) × Counting l.image.words.now l.found l.initial.rows l.q l.before l.run l.rows
