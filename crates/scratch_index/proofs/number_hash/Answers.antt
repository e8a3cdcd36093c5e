-- `scratch_index::number_hash` meets its contract.
use Rattle.scratch_folds.specs.Hash.{mix}
use Rattle.scratch_index.proofs.number_hash.Goals as goal

pub returns : goal.returns
unfolding mix
returns c = cc
