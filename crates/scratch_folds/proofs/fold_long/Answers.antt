-- `scratch_folds::fold_long` meets its contract.
use native.Mathlib.Omega.{arith}
use Rattle.scratch_folds.proofs.SumsLaws.{long_kept, text-read}
use Rattle.scratch_folds.proofs.fold_long.Goals as goal

pub returns-then-text_count-t : goal.returns-then-text_count-t
returns-then-text_count-t c =
    let a = c.args in
    text-read a.sheet.now a.t a.at a.scratch.now a.start _ _ c.text.ensures c.fold_on.ensures

pub returns-then-b-i : goal.returns-then-b-i
returns-then-b-i c =
    let a = c.args in
    text-read a.sheet.now a.t a.at a.scratch.now a.start _ _ c.text-then-b-i.ensures c.fold_on-then-b-i.ensures

pub returns : goal.returns
returns c =
    let a = c.args in
    long_kept a.sheet.now a.t a.at a.scratch.now a.start _ _ _ _ (omega (arith, c.text_count.ensures)) c.requires
    c.text_start-i.ensures c.text_length-n.ensures c.text_bytes-b.ensures (omega arith) c.fold_part.ensures
