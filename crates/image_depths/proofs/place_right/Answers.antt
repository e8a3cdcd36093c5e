-- `image_depths::place_right` meets its contract.
use Rattle.image_depths.proofs.CheckLaws.{place_none, place-by}
use Rattle.image_depths.proofs.MarkLaws.{after_read}
use Rattle.image_depths.proofs.place_right.Goals as goal

pub returns-then-m-eq0 : goal.returns-then-m-eq0
returns-then-m-eq0 c =
    let a = c.args in place_none a.image.now.words.now a.found.now a.p _ c.word_of-m.ensures c.if-m-eq0.true

pub returns : goal.returns
returns c =
    let a = c.args in
    let R = c.code_at-c.ensures in
    place-by a.image.now.words.now a.found.now a.p _ _ _ _ _ c.word_of-m.ensures c.if-m-eq0.false
    (after_read a.image.now.words.now a.p _ _ _ c.after-n.ensures.value R) R.needs c.from.ensures (c.leads.ensures R)
