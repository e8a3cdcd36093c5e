-- `image_fields::code_bounds` meets its contract: the numbers are the definition's.
use mathlib.Core.Path.{◌∙◌}
use Rattle.image_fields.specs.Fields.{bounds_by}
use Rattle.image_fields.proofs.FitLaws.{bounds-read}
use Rattle.image_fields.proofs.code_bounds.Goals as goal

pub returns : goal.returns
unfolding bounds_by
returns c =
    let a = c.args in
    let sized = a.image.now.sized in
    bounds-read a.sheet.now a.image.now.words.now (c.from.ensures ∙ sized.consts) (c.from-2.ensures ∙ c.local_count.ensures)
    (c.from-names.ensures ∙ sized.names) (c.from-3.ensures ∙ sized.tables) (c.from-4.ensures ∙ sized.chains)
    (c.from-5.ensures ∙ sized.residuals)
