-- `scratch_folds::fold_part` meets its contract.
use native.Mathlib.Omega.{arith}
use Rattle.scratch_folds.proofs.SumsLaws.{part-fold}
use Rattle.scratch_folds.proofs.fold_part.Goals as goal

pub returns : goal.returns
returns c =
    let a = c.args in
    part-fold a.b.now a.at a.scratch.now a.i a.n a.start _ _ _ _ _ c.requires (omega arith) c.fold_to-p.ensures
    c.fold_to-e.ensures (omega arith)
    c.power.ensures c.behind.ensures
