-- `scratch_folds::fold_on` meets its contract: four bytes at a time are four steps. Invariant: what is left leads to the whole.
use Rattle.std.proofs.Common.{◌*◌, ◌<◌}
use Rattle.scratch_folds.specs.Hash.{fold_hash}
use Rattle.scratch_folds.proofs.HashLaws.{Folding}
use Rattle.scratch_folds.proofs.fold_on.Given as goal

abbrev pub invariant-loop-four : goal.invariant-loop-four
invariant-loop-four l = (l.h < 4294967296) × Folding l.x (fold_hash l.start l.x) (4 * l.four-index) l.h
