-- `words::whole` meets its contract: the four bytes are there, and stand for the word.
use Rattle.std.proofs.Common.{◌∙◌}
use Rattle.words.proofs.WordLaws.{word-le}
use Rattle.words.proofs.whole.Goals as goal

pub returns : goal.returns
returns c = c.from_le_bytes.ensures ∙ word-le c.args.s.now c.args.i c.requires
