-- `expr_chains::count_links` meets its contract. Invariant: the links passed and those left are all, and so are their operands.
use Rattle.expr_chains.proofs.WalkedLaws.{CountLeft}
use Rattle.expr_chains.proofs.count_links.Given as goal

abbrev pub invariant-loop-p : goal.invariant-loop-p
invariant-loop-p l = CountLeft l.sheet l.j l.links l.operands l.p-iterator
