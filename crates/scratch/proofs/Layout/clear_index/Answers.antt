-- `scratch::Layout::clear_index` meets its contract.
use Rattle.scratch.specs.Places.{cleared_index}
use Rattle.scratch.proofs.Layout.clear_index.Goals as goal

pub returns : goal.returns
unfolding cleared_index
returns c = cc
