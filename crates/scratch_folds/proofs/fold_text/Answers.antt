-- `scratch_folds::fold_text` meets its contract.
use Rattle.scratch_folds.proofs.SumsLaws.{text-read}
use Rattle.scratch_folds.proofs.fold_text.Goals as goal

pub returns-then-text_length-lt-LONG : goal.returns-then-text_length-lt-LONG
returns-then-text_length-lt-LONG c =
    let a = c.args in
    text-read a.sheet.now a.t a.at a.scratch.now a.start _ _ c.text.ensures c.fold_on.ensures
