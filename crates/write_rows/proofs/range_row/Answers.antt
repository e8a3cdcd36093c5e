-- `write_rows::range_row` meets its contract: the cuts of the band's ends, and its target.
use Rattle.write_rows.proofs.RowLaws.{range-words}
use Rattle.write_rows.proofs.range_row.Goals as goal

pub returns : goal.returns
returns c =
    let a = c.args in
    range-words a.flat.now a.i c.get.result c.get-last.result _ _ _ _ _ c.get.ensures c.get-last.ensures
    c.get-2.ensures c.get-3.ensures c.get-4.ensures c.get-5.ensures
    c.target_of.ensures
