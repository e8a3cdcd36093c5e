-- `switch_lists::list_of_case` meets its contract. The invariant is `Reading`: the blocks of the Refs passed are there.
use Rattle.sheet.specs.Node.{field_a}
use Rattle.sheet.specs.Rest.{rest}
use Rattle.switch_lists.proofs.ReadLaws.{Reading}
use Rattle.switch_lists.proofs.list_of_case.Given as goal

abbrev pub invariant-loop-i : goal.invariant-loop-i
invariant-loop-i l =
    Reading (field_a l.sheet) (rest l.initial.i-iterator.iter) l.initial.room l.room l.i-iterator.count (rest l.i-iterator.iter)
