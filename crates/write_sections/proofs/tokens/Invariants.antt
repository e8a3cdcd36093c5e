-- `write_sections::tokens` meets its contract. Invariant: the first i words are the tokens of the first i nodes.
use mathlib.Core.Path.{◌≡◌}
use lib.ListN.{length, take}
use Rattle.write_sections.specs.Written.{Written}
use mathlib.Core.List.{map}
use Rattle.sheet.specs.Node.{field_c}
use Rattle.write_sections.proofs.tokens.Given as goal

abbrev pub invariant-loop-i : goal.invariant-loop-i
invariant-loop-i l = (length l.out ≡ length l.initial.out) × Written l.initial.out l.out (map (field_c l.sheet) (take l.i l.ks))
