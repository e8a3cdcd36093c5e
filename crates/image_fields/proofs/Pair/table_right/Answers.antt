-- `image_fields::Pair::table_right` meets its contract.
use Rattle.image_fields.proofs.RecordLaws.{table-right}
use Rattle.image_fields.proofs.Pair.table_right.Goals as goal

pub returns : goal.returns
returns c =
    let p = c.args.self.now in
    table-right p.image.words.now c.args.i p.image.sized.places c.table_word-kind.ensures c.table_word-from.ensures
    c.table_word-rows.ensures c.from.ensures c.rows_there.ensures c.run_fits-run.ensures c.table_word.ensures
