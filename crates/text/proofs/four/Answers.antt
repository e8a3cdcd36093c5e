-- `text::four` meets its contract: the four bytes are there, and stand for the number. Assumes nothing.
use Rattle.std.proofs.Common.{◌∙◌}
use Rattle.text.proofs.EightLaws.{four-le}
use Rattle.text.proofs.four.Goals as goal

pub returns : goal.returns
returns c = c.from_le_bytes.ensures ∙ four-le c.args.s.now c.args.i
