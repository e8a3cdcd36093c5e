-- `image_rows::table_rows_right` meets its contract.
use native.Mathlib.Omega.{arith}
use mathlib.Core.Path.{refl}
use Rattle.image_rows.proofs.RunLaws.{rows_none, rows-some}
use Rattle.image_rows.proofs.table_rows_right.Goals as goal

pub returns-then-count-eq0 : goal.returns-then-count-eq0
returns-then-count-eq0 c =
    let a = c.args in
    λ Q R. rows_none a.image.now.words.now a.found.now a.i a.m _ c.table_word-count.ensures c.if-count-eq0.true

pub returns : goal.returns
returns c =
    let a = c.args in
    rows-some a.image.now.words.now a.found.now a.rows.now a.i a.m _ _ _ _ _ _ c.table_word-count.ensures c.if-count-eq0.false
    (omega (arith, c.table_word-count.type_inv)) c.first_row.ensures.first refl c.row_target-t.ensures c.word_of.ensures
    c.word_of-2.ensures
