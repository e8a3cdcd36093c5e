-- `image_depths::table_right` meets its contract.
use mathlib.Core.Path.{ap, ◌∙◌}
use Rattle.image_rule.specs.Marks.{mark}
use Rattle.image_depths.proofs.CheckLaws.{table_none, table-by}
use Rattle.image_depths.proofs.table_right.Goals as goal

pub returns-then-m-eq0 : goal.returns-then-m-eq0
returns-then-m-eq0 c =
    let a = c.args in
    λ Q R. table_none a.image.now.words.now a.found.now a.i _ (c.word_of-m.ensures ∙ ap (mark a.found.now) c.table_node.ensures.value)
    c.if-m-eq0.true

pub returns : goal.returns
returns c =
    let a = c.args in
    λ Q R.
    table-by a.image.now.words.now a.found.now a.i _ _ _ _ (c.word_of-m.ensures ∙ ap (mark a.found.now) c.table_node.ensures.value)
    c.if-m-eq0.false (c.table_rows_right-right.ensures Q R) c.table_word.ensures c.word_of.ensures
