-- `switch_lists::list_of_piece` meets its contract. The invariant is `Listing`: the blocks of the intervals passed
-- that cover the piece are there.
use Rattle.switch_lists.proofs.SpanLaws.{Listing}
use Rattle.switch_lists.proofs.list_of_piece.Given as goal

abbrev pub invariant-loop-i : goal.invariant-loop-i
invariant-loop-i l = Listing l.flat l.n l.p l.initial.room l.room l.k l.i
