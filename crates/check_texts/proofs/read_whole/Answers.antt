-- `check_texts::read_whole` meets its contract: bytes that are read to their end are well-formed. Assumes nothing.
use Rattle.check_texts.proofs.MarkLaws.{reading-whole}
use Rattle.check_texts.proofs.read_whole.Goals as goal

pub returns : goal.returns
returns c = reading-whole _ c.run.ensures
