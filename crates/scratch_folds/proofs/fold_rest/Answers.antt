-- `scratch_folds::fold_rest` meets its contract. Invariant: what is left leads to the whole.
use native.Mathlib.Omega.{arith}
use Rattle.scratch_folds.proofs.HashLaws.{folding-starts, folding-goes, folding-ends}
use Rattle.scratch_folds.proofs.fold_rest.Goals as goal

pub loop-b-init : goal.loop-b-init
loop-b-init c =
    let a = c.args in
    (omega arith, folding-starts a.x.now 0 a.start (omega arith))

pub loop-b-preserved : goal.loop-b-preserved
loop-b-preserved c =
    let w = c.loop-b in
    let a = c.args in
    let f = c.byte_step-h in
    (omega arith, folding-goes a.x.now _ w.b-index w.h f.result w.invariant.1 (omega arith) f.ensures)

pub returns : goal.returns
returns c =
    let w = c.loop-b in
    let a = c.args in
    folding-ends a.x.now _ w.b-index w.h w.invariant.1 (omega arith)
