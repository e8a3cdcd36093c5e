-- `check_texts::Texts::inside` meets its contract: the test is the definition's. Assumes nothing.
use Rattle.check_texts.proofs.PlainLaws.{inside-read}
use Rattle.check_texts.proofs.Texts.inside.Goals as goal

pub returns : goal.returns
returns c = inside-read _ _ c.start-start.ensures c.length-len.ensures c.args.self.now.read.size_is
