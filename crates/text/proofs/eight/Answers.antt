-- `text::eight` meets its contract: the eight bytes are there, and stand for the number. Assumes nothing.
use Rattle.std.proofs.Common.{◌∙◌}
use Rattle.text.proofs.EightLaws.{eight-le}
use Rattle.text.proofs.eight.Goals as goal

pub returns : goal.returns
returns c = c.from_le_bytes.ensures ∙ eight-le c.args.s.now c.args.i
