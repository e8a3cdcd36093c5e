-- `sheet::position` meets its contract: the word read is the one that the definition names.
use Rattle.sheet.specs.Node.{position}
use Rattle.sheet.proofs.position.Goals as goal

pub returns : goal.returns
unfolding position
returns c = cc
