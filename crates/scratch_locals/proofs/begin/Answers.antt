-- `scratch_locals::begin` meets its contract.
use Rattle.scratch_locals.proofs.SettleLaws.{begins-few, begins-many}
use Rattle.scratch_locals.proofs.begin.Goals as goal

pub returns-then-local_count-le-FEW : goal.returns-then-local_count-le-FEW
returns-then-local_count-le-FEW c =
    let a = c.args in
    begins-few a.sheet.now a.layout a.scratch.now c.sums_at.ensures c.fill.ensures _
    c.local_count.ensures c.if-local_count-le-FEW.true c.clear_index.ensures c.clear_index.auto.scratch

pub returns : goal.returns
returns c =
    let a = c.args in
    begins-many a.sheet.now a.layout a.scratch.now c.sums_at.ensures c.fill.ensures _ _
    c.prepare.auto.scratch c.prepare.ensures c.clear_index-2.ensures c.clear_index-2.auto.scratch
