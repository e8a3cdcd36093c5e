-- `scratch_index::note` meets its contract.
use Rattle.scratch_index.specs.Table.{noted_by}
use Rattle.scratch_index.proofs.note.Goals as goal

pub returns : goal.returns
unfolding noted_by
returns c = cc
