-- `write_rows::case_rows` meets its contract. Invariant: the first i rows are there.
use Rattle.write_rows.proofs.Filled.{filled-start, filled_next, filled-end}
use Rattle.write_rows.proofs.RowLaws.{case-two}
use native.Mathlib.Omega.{arith}
use Rattle.write_rows.proofs.case_rows.Goals as goal

pub loop-i-init : goal.loop-i-init
loop-i-init c = let a = c.args in filled-start a.n a.out.now (case-two a.flat.now)

pub loop-i-preserved : goal.loop-i-preserved
loop-i-preserved c =
    filled_next c.loop-i.invariant _ c.loop-i-test.true (omega arith) c.case_row.ensures c.put.ensures

pub shape_of-out : goal.shape_of-out
shape_of-out c = c.loop-i.invariant.kept

pub returns : goal.returns
returns c =
    filled-end c.loop-i.invariant c.requires.1 (omega arith)
