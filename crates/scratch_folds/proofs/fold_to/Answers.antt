-- `scratch_folds::fold_to` meets its contract.
use Prim.Native.Nat.{◌/◌}
use native.Mathlib.Omega.{arith}
use mathlib.Core.Path.{refl}
use Rattle.scratch_folds.proofs.SumsLaws.{to_front, to_block}
use Rattle.scratch_folds.proofs.fold_to.Goals as goal

pub returns-then-passed-eq0 : goal.returns-then-passed-eq0
returns-then-passed-eq0 c =
    let a = c.args in
    to_front a.b.now a.at a.scratch.now a.i _ _ c.part.ensures c.fold_bytes.ensures

pub returns : goal.returns
returns c =
    let a = c.args in
    to_block a.b.now a.at a.scratch.now a.i _ _ (a.i / 1024) _ refl (omega arith) c.get-h.ensures
    c.part-2.ensures c.fold_on.ensures
