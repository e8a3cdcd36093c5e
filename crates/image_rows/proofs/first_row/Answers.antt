-- `image_rows::first_row` meets its contract.
use Rattle.image_rows.proofs.ReadLaws.{first-read}
use Rattle.image_rows.proofs.first_row.Goals as goal

pub returns-clause-first : goal.returns-clause-first
returns-clause-first c =
    let image = c.args.image.now in
    first-read image.words.now c.args.i _ _ _ _ _ c.table_word.ensures c.from.ensures image.sized.cases c.rows_before-before.ensures.value
    c.table_word-2.ensures
