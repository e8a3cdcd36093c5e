-- `image_depths::code_at` meets its contract.
use Rattle.image_depths.proofs.CodeLaws.{code_read}
use Rattle.image_depths.proofs.code_at.Goals as goal

pub returns : goal.returns
returns c =
    let a = c.args in
    let e = c.effect_of-effect.ensures in
    code_read a.image.now.words.now a.p _ _ _ _ _ _ _ _ _ _
    c.kind_at-kind.ensures c.a_at-a.ensures c.b_at-b.ensures
    e.top c.on_top-top.ensures.value e.pops e.keeps c.kept.ensures e.flow e.pushes
