-- `write_sections::consts` meets its contract. Invariant: the first i rows are the constants of the first i nodes.
use mathlib.Core.Path.{◌≡◌}
use lib.ListN.{length}
use Rattle.write_sections.specs.Written.{Written}
use Rattle.write_sections.proofs.RowLaws.{const_rows}
use Rattle.write_sections.proofs.consts.Given as goal

abbrev pub invariant-loop-i : goal.invariant-loop-i
invariant-loop-i l = (length l.out ≡ length l.initial.out) × Written l.initial.out l.out (const_rows l.sheet l.ks l.i)
