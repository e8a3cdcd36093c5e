-- `image_depths::enter` meets its contract.
use Rattle.image_depths.proofs.MarkLaws.{entered-old, entered-new}
use Rattle.image_depths.proofs.enter.Goals as goal

pub returns-then-word_of-ne0 : goal.returns-then-word_of-ne0
returns-then-word_of-ne0 c =
    let a = c.args in
    λ P p. entered-old a.image.now.words.now a.i a.m _ _ a.found.now a.rows.now c.table_node.ensures.value c.word_of.ensures
    c.if-word_of-ne0.true

pub returns : goal.returns
returns c =
    let a = c.args in
    λ P p. entered-new a.image.now.words.now a.i a.m _ _ a.found.now a.rows.now c.table_node.ensures.value c.word_of.ensures _ _ _ _
    c.if-word_of-ne0.false (c.come_table_rows.ensures P p) c.table_word.ensures c.come.ensures
