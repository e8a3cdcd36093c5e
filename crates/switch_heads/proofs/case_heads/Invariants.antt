-- `switch_heads::case_heads` meets its contract. The invariant is `CaseFill`: heads and numbers of the cases passed.
use Rattle.switch_heads.proofs.CaseLaws.{CaseFill}
use Rattle.switch_heads.proofs.case_heads.Given as goal

abbrev pub invariant-loop-i : goal.invariant-loop-i
invariant-loop-i l = CaseFill l.sheet l.initial.flat l.first l.n l.flat l.heads l.c l.i
