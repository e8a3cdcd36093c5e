-- `write_rows::case_row` meets its contract: the target of the case, and its constant.
use Rattle.write_rows.proofs.RowLaws.{case-words}
use Rattle.write_rows.proofs.case_row.Goals as goal

pub returns : goal.returns
returns c = case-words _ c.args.i _ _ c.target_of.ensures c.get.ensures
