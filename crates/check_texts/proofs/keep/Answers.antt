-- `check_texts::keep` meets its contract. The loop's invariant: the marks from block j on are true. Assumes nothing.
use native.Mathlib.Omega.{arith}
use Rattle.check_texts.proofs.MarkLaws.{mark-none, mark_set, mark-all}
use Rattle.check_texts.proofs.keep.Goals as goal

pub loop-j-init : goal.loop-j-init
loop-j-init c = (c.requires.characters, mark-none _ _ c.requires.base_bound.1)

pub far_from-f-requires : goal.far_from-f-requires
far_from-f-requires c = c.loop-j.invariant.0

pub loop-j-preserved : goal.loop-j-preserved
loop-j-preserved c =
    let f = c.far_from-f.ensures in
    (f, mark_set c.loop-j.j _ c.loop-j.invariant.1 (omega arith) (omega arith) (omega arith) f c.mark.ensures)

pub returns : goal.returns
returns c =
    let inv = c.loop-j.invariant in
    (inv.0, mark-all inv.1 (omega arith))
