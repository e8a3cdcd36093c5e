-- `scratch_folds::fold_rest` meets its contract. Invariant: what is left leads to the whole.
use Prim.Native.Nat.{◌<◌}
use Rattle.scratch_folds.specs.Hash.{fold_hash}
use Rattle.scratch_folds.proofs.HashLaws.{Folding}
use Rattle.scratch_folds.proofs.fold_rest.Given as goal

abbrev pub invariant-loop-b : goal.invariant-loop-b
invariant-loop-b l = (l.h < 4294967296) × Folding l.x (fold_hash l.start l.x) l.b-index l.h
