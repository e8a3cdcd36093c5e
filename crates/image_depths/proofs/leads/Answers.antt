-- `image_depths::leads` meets its contract.
use mathlib.Core.Path.{◌∙◌}
use Rattle.image_depths.proofs.CheckLaws.{leads-both}
use Rattle.image_depths.proofs.leads.Goals as goal

pub returns : goal.returns
returns c =
    let a = c.args in
    λ R.
    leads-both a.image.now.words.now a.found.now a.p a.m _ _ _ _ (c.ways-x.ensures R) (c.from.ensures ∙ c.word_of.ensures)
    (c.from-2.ensures ∙ c.word_of-2.ensures)
