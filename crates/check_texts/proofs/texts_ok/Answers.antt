-- `check_texts::texts_ok` meets its contract: texts that do not all lie within the text bytes are not all right. Assumes nothing.
use mathlib.Core.Path.{sym, ap, ◌∙◌}
use Rattle.check_texts.specs.Texts.{texts_ok}
use Rattle.check_texts.proofs.TextsLaws.{outside-fails}
use Rattle.check_texts.proofs.texts_ok.Goals as goal

pub returns : goal.returns
returns c = sym (outside-fails _ (sym c.all_inside.ensures ∙ c.if-all_inside.false)) ∙ ap texts_ok c.of-texts.ensures
