-- `write_sections::names` meets its contract. Invariant: the first i rows are the names of the first i keys.
use mathlib.Core.Path.{◌≡◌}
use lib.ListN.{length}
use Rattle.write_sections.specs.Written.{Written}
use Rattle.write_sections.proofs.RowLaws.{name_rows}
use Rattle.write_sections.proofs.names.Given as goal

abbrev pub invariant-loop-i : goal.invariant-loop-i
invariant-loop-i l = (length l.out ≡ length l.initial.out) × Written l.initial.out l.out (name_rows l.sheet l.ks l.i)
