-- `image_spans::table_aims` meets its contract.
use native.Mathlib.Omega.{arith}
use Rattle.image_spans.proofs.TableLaws.{table-aims}
use Rattle.image_spans.proofs.table_aims.Goals as goal

pub returns-then-p-eq4294967295 : goal.returns-then-p-eq4294967295
returns-then-p-eq4294967295 c = λ T small h. absurd (omega (arith, small, c.if-p-eq4294967295.true))

pub returns : goal.returns
returns c =
    let image = c.args.image.now in
    table-aims _ c.args.i _ _ _ _ _ _ _ image.sized.cases c.table_word.ensures c.from.ensures
    c.rows_before-before.ensures.value c.table_word-2.ensures c.table_word-3.ensures c.table_word-4.ensures c.all_at_most.ensures
