-- `write_sections::copy` meets its contract. Invariant: the first i words are there.
use mathlib.Core.Path.{◌≡◌}
use lib.ListN.{length, take}
use Rattle.write_sections.specs.Written.{Written}
use Rattle.write_sections.proofs.copy.Given as goal

abbrev pub invariant-loop-i : goal.invariant-loop-i
invariant-loop-i l = (length l.out ≡ length l.initial.out) × Written l.initial.out l.out (take l.i l.w)
