-- `sheet::local_text` meets its contract: the word read is the one that the definition names.
use Rattle.sheet.specs.Node.{local_text}
use Rattle.sheet.proofs.local_text.Goals as goal

pub returns : goal.returns
unfolding local_text
returns c = cc
