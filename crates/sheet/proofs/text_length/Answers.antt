-- `sheet::text_length` meets its contract: the word read is the one that the definition names.
use Rattle.sheet.specs.Text.{text_length_by}
use Rattle.sheet.proofs.text_length.Goals as goal

pub returns : goal.returns
unfolding text_length_by
returns c = cc
