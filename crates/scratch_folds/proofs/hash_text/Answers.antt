-- `scratch_folds::hash_text` meets its contract.
use Rattle.scratch_folds.proofs.SumsLaws.{text-hashed}
use Rattle.scratch_folds.proofs.hash_text.Goals as goal

pub returns : goal.returns
returns c =
    let a = c.args in
    text-hashed a.sheet.now a.t a.at a.scratch.now _ _ c.fold_text.ensures c.spread_out.ensures
