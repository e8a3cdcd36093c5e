-- `write_sections::copy` meets its contract. Invariant: the first i words are there.
use mathlib.Core.Path.{refl}
use native.Mathlib.Omega.{arith}
use Rattle.write_sections.proofs.PutLaws.{written_none, written-length}
use Rattle.write_sections.proofs.RowLaws.{copy-next, copy-end}
use Rattle.write_sections.proofs.copy.Goals as goal

pub loop-i-init : goal.loop-i-init
loop-i-init c = (refl, written_none c.args.out.now)

pub loop-i-preserved : goal.loop-i-preserved
loop-i-preserved c =
    let w = copy-next c.args.w.now c.loop-i.i c.requires (omega arith) c.loop-i.invariant.1 in
    (written-length w, w)

pub shape_of-out : goal.shape_of-out
shape_of-out c = c.loop-i.invariant.0

pub returns : goal.returns
returns c = copy-end c.args.w.now c.loop-i.i c.requires (omega arith) c.loop-i.invariant.1
