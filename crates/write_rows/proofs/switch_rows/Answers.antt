-- `write_rows::switch_rows` meets its contract: one table, or two.
use Rattle.write_rows.proofs.TableLaws.{tables-one, tables-both}
use Rattle.write_rows.proofs.switch_rows.Goals as goal

pub returns-then-ranges-gt0 : goal.returns-then-ranges-gt0
returns-then-ranges-gt0 c =
    tables-both c.args.out.now _ _ _ _ c.requires c.put.ensures c.if-ranges-gt0.true c.put-then-ranges-gt0.ensures

pub returns-else-ranges-gt0 : goal.returns-else-ranges-gt0
returns-else-ranges-gt0 c =
    tables-one c.args.out.now _ _ _ _ c.requires c.put.ensures c.if-ranges-gt0.false
