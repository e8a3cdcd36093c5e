-- `scratch_keys::joined::overlap_same` meets its contract.
use Rattle.scratch_keys.proofs.PiecesLaws.{overlap-before, overlap-behind, overlap-is}
use Rattle.scratch_keys.proofs.joined.overlap_same.Goals as goal

pub returns-then-p-skip : goal.returns-then-p-skip
returns-then-p-skip c =
    let a = c.args in
    overlap-before a.p.now a.q.now a.at a.to _ _ c.saturating_sub-skip.ensures c.saturating_sub-from.ensures c.if-p-skip.true

pub returns-then-q-from : goal.returns-then-q-from
returns-then-q-from c =
    let a = c.args in
    overlap-behind a.p.now a.q.now a.at a.to _ _ c.saturating_sub-skip.ensures c.saturating_sub-from.ensures c.if-q-from.true

pub returns : goal.returns
returns c =
    let a = c.args in
    overlap-is a.p.now a.q.now a.at a.to _ _ c.saturating_sub-skip.ensures c.saturating_sub-from.ensures _ _ _ c.part.ensures
    c.part-2.ensures
    c.same_bytes.ensures
