-- `scratch_folds::fill_blocks` meets its contract. Invariant: the folds over the blocks passed are written, and h is the last of them.
use Rattle.scratch_folds.proofs.SumsLaws.{Filling}
use Rattle.scratch_folds.proofs.fill_blocks.Given as goal

abbrev pub invariant-loop-k : goal.invariant-loop-k
invariant-loop-k l = Filling l.b l.at l.k l.h l.initial.scratch l.scratch
