-- `image_depths::hand_on` meets its contract.
use Rattle.image_depths.proofs.MarkLaws.{handed}
use Rattle.image_depths.proofs.hand_on.Goals as goal

pub returns : goal.returns
returns c =
    let a = c.args in
    λ R Q h.
    handed a.image.now.words.now a.p a.m _ _ _ _ _ _ _ _ (c.open_table.ensures a.p R Q h) (c.ways-x.ensures R) c.come.ensures c.come-2.ensures h
