-- `check_texts::Texts::length` meets its contract: it is the word that the definition reads.
use Prim.Native.Nat.{◌+◌}
use mathlib.Core.Path.{ap, ◌∙◌}
use Rattle.words.specs.Word.{word}
use Rattle.sheet.specs.Text.{text_length_by}
use Rattle.check_texts.proofs.Texts.length.Goals as goal

pub returns : goal.returns
unfolding text_length_by
returns c =
    let texts = c.args.self.now in
    c.word_at.ensures ∙ ap (λ at. word texts.sheet.now (at + c.args.t)) texts.read.lengths_at_is
