-- `sheet::start_of` meets its contract: the definition goes down through at most as many children as there are nodes.
use Rattle.sheet.specs.Start.{start_of}
use Rattle.sheet.proofs.start_of.Goals as goal

pub returns : goal.returns
unfolding start_of
returns c = cc
