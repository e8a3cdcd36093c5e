-- `sheet::text_start` meets its contract: the word read is the one that the definition names.
use Rattle.sheet.specs.Text.{text_start_by}
use Rattle.sheet.proofs.text_start.Goals as goal

pub returns : goal.returns
unfolding text_start_by
returns c = cc
