-- `check_texts::keep` meets its contract. The loop's invariant: the marks from block j on are true. Assumes nothing.
use Rattle.check_texts.specs.Marks.{Characters, Marks}
use Rattle.check_texts.proofs.keep.Given as goal

abbrev pub invariant-loop-j : goal.invariant-loop-j
invariant-loop-j l = Characters l.b l.f.from l.f.to × Marks l.b l.base l.j l.marks
