-- `scratch_index::remember` meets its contract.
use Rattle.scratch_index.specs.Memo.{remembered}
use Rattle.scratch_index.proofs.remember.Goals as goal

pub returns : goal.returns
unfolding remembered
returns c = cc
