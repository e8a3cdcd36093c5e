-- `sheet::text` meets its contract: the part handed back is the one that the definition names.
use Rattle.sheet.specs.Text.{text}
use Rattle.sheet.proofs.text.Goals as goal

pub returns : goal.returns
unfolding text
returns c = cc
