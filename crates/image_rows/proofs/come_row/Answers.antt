-- `image_rows::come_row` meets its contract.
use native.Mathlib.Omega.{arith}
use Rattle.image_rows.proofs.ScratchLaws.{stepped_fresh, stepped-again}
use Rattle.image_rows.proofs.come_row.Goals as goal

pub returns-then-was-eq0 : goal.returns-then-was-eq0
returns-then-was-eq0 c =
    let a = c.args in record {
      forth = λ h. (omega arith, omega arith);
      step = stepped_fresh a.image.now.words.now a.m a.k a.left _ _ _ _ c.note-was.ensures.was c.note-was.ensures.raised _ _ c.if-was-eq0.true
          c.row_target.ensures c.come.ensures;
    }

pub returns : goal.returns
returns c =
    let a = c.args in
    let some = c.if-was-eq0.false in record {
      forth = λ h. (omega (arith, some, c.min.ensures, h), omega (arith, c.min.ensures));
      step = stepped-again a.image.now.words.now a.m a.k a.left _ _ _ _ c.note-was.ensures.was c.note-was.ensures.raised _ some c.min.ensures;
    }
