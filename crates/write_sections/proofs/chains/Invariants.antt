-- `write_sections::chains` meets its contract. Invariant: the first i rows are the chains of the first i nodes, and
-- first is how many steps they have.
use mathlib.Core.Path.{◌≡◌}
use lib.ListN.{length, take}
use Rattle.write_sections.specs.Written.{Written}
use Rattle.scratch_index.specs.Held.{NamesHold, names_held}
use Rattle.expr_chains.specs.Kept.{step_count}
use Rattle.write_sections.proofs.ChainRows.{chain_rows}
use Rattle.write_sections.proofs.chains.Given as goal

abbrev pub invariant-loop-i : goal.invariant-loop-i
invariant-loop-i l =
    (l.first ≡ step_count l.names.sheet.now (take l.i l.js)) × (length l.out ≡ length l.initial.out) ×
    (NamesHold l.names.sheet.now l.names.layout l.names.count l.names.scratch.now
    → Written l.initial.out l.out
    (chain_rows l.names.sheet.now (names_held l.names.sheet.now l.names.layout l.names.count l.names.scratch.now) l.js l.i))
