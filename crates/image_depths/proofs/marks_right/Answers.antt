-- `image_depths::marks_right` meets its contract.
use mathlib.Core.Path.{◌∙◌}
use Rattle.image_depths.proofs.CheckLaws.{marks-by}
use Rattle.image_depths.proofs.marks_right.Goals as goal

pub returns : goal.returns
returns c =
    let a = c.args in
    λ Q R.
    marks-by a.image.now.words.now a.found.now _ _ _ _ _ _ a.image.now.sized.places (c.from-d.ensures ∙ c.word_of.ensures)
    c.places_right.ensures (c.tables_right.ensures Q R) c.word_of-2.ensures (c.from.ensures ∙ c.most.ensures)
