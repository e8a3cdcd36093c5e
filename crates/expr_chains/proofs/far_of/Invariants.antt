-- `expr_chains::far_of` meets its contract. Invariant: what is told of the links passed, with those left, tells of all.
use Rattle.expr_chains.proofs.WalkedLaws.{FarLeft}
use Rattle.expr_chains.proofs.far_of.Given as goal

abbrev pub invariant-loop-p : goal.invariant-loop-p
invariant-loop-p l = FarLeft l.sheet l.j l.distance l.operands l.p-iterator
