-- `switch_lists::hash` meets its contract. The invariant is `Mixing`: what is left of the list gives the whole hash.
use Rattle.switch_lists.proofs.HashLaws.{Mixing}
use Rattle.switch_lists.proofs.hash.Given as goal

abbrev pub invariant-loop-x : goal.invariant-loop-x
invariant-loop-x l = Mixing l.list l.h l.x-index
