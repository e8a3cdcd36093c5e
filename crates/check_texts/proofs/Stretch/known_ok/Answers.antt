-- `check_texts::Stretch::known_ok` meets its contract: a text of whole characters is right. Assumes nothing.
use mathlib.Core.Bool.{false≢true}
use Rattle.check_texts.proofs.TextsLaws.{text-whole}
use Rattle.check_texts.proofs.Stretch.known_ok.Goals as goal

pub returns-then-self-end : goal.returns-then-self-end
returns-then-self-end c = λ h. absurd (false≢true h)

pub returns : goal.returns
returns c =
    λ h. text-whole _ _ _ _ c.args.self.now.texts.read.bytes_are c.start-start.ensures c.length.ensures (c.whole.ensures h)
