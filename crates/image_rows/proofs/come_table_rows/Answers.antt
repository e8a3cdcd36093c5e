-- `image_rows::come_table_rows` meets its contract. Invariant: r rows are passed (`Going`).
use mathlib.Core.Path.{refl, ◌∙◌}
use native.Mathlib.Omega.{arith}
use Rattle.image_rows.proofs.SeenLaws.{going_start, going_on, going_done}
use Rattle.image_rows.proofs.come_table_rows.Goals as goal

pub loop-r-init : goal.loop-r-init
loop-r-init c = (omega arith, refl, refl, λ p S. going_start c.args.image.now.words.now c.args.m _ _ _ _ S)

pub overflow_add-r : goal.overflow_add-r
overflow_add-r c = let forth = c.come_row-r.ensures.forth (omega arith) in omega (arith, forth)

pub loop-r-smaller : goal.loop-r-smaller
loop-r-smaller c = let forth = c.come_row-r.ensures.forth (omega arith) in omega (arith, forth)

pub loop-r-preserved : goal.loop-r-preserved
loop-r-preserved c =
    let row = c.come_row-r in
    let v = c.loop-r.invariant in
    let forth = row.ensures.forth (omega arith) in (
      omega (arith, forth),
      row.auto.found ∙ v.1,
      row.auto.rows ∙ v.2,
      λ p S.
          going_on c.args.image.now.words.now c.args.m _ _ _ _ _ _ _ _ _ _ p S c.loop-r-test.true (v.3 p S) row.ensures.step,
    )

pub returns : goal.returns
returns c =
    let v = c.loop-r.invariant in
    λ Q p S.
    going_done c.args.image.now.words.now c.args.m _ _ _ _ c.args.i _ _ _ (omega (arith, v.0, c.loop-r-test.false))
    c.first_row-first.ensures.first c.table_word-count.ensures Q (v.3 p S)
