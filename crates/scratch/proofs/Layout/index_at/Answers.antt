-- `scratch::Layout::index_at` meets its contract.
use Rattle.scratch.specs.Places.{index_at}
use Rattle.scratch.proofs.Layout.index_at.Goals as goal

pub returns : goal.returns
unfolding index_at
returns c = cc
