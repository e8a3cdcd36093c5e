-- `check_texts::Texts::read_ok` meets its contract: a text within the text bytes is right where it is well-formed. Assumes nothing.
use mathlib.Core.Path.{sym, ◌∙◌}
use Rattle.check_texts.proofs.TextsLaws.{inside-read, outside-read}
use Rattle.check_texts.proofs.Texts.read_ok.Goals as goal

pub returns-then-inside : goal.returns-then-inside
returns-then-inside c =
    inside-read _ _ (sym c.inside.ensures ∙ c.if-inside.true) c.text.ensures c.read_whole.ensures

pub returns : goal.returns
returns c = outside-read _ _ (sym c.inside.ensures ∙ c.if-inside.false)
