-- `check_texts::Texts::inside_ok` meets its contract: where the text bytes are ASCII, a text that lies within
-- them is right. Assumes nothing.
use mathlib.Core.Path.{sym}
use Rattle.check_texts.proofs.PlainLaws.{plain-texts}
use Rattle.check_texts.proofs.Texts.inside_ok.Goals as goal

pub returns-then-plain : goal.returns-then-plain
returns-then-plain c =
    sym (plain-texts c.args.self.now.sheet.now _ c.args.self.now.read.bytes_are (c.plain.ensures c.if-plain.true) c.requires)
