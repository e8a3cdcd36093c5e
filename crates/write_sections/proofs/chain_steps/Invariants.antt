-- `write_sections::chain_steps` meets its contract. Invariant: the rows of the links passed are their steps, and
-- those of the links left are ahead.
use Rattle.std.proofs.Common.{◌≡◌, length}
use Rattle.write_sections.specs.Written.{Written}
use Rattle.scratch_index.specs.Held.{NamesHold, names_held}
use Rattle.write_sections.proofs.StepRows.{Ahead, step_rows}
use Rattle.write_sections.proofs.chain_steps.Given as goal

abbrev pub invariant-loop-i : goal.invariant-loop-i
invariant-loop-i l =
    let it = l.names in
    let s = it.sheet.now in
    let ns = names_held s it.layout it.count it.scratch.now in
    let i = l.i-iterator.count in
    Ahead s ns l.j i l.k l.i-iterator.iter × (length l.out ≡ length l.initial.out)
    × (NamesHold s it.layout it.count it.scratch.now → Written l.initial.out l.out (step_rows s ns l.j i))
