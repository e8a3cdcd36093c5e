-- `write_sections::consts` meets its contract. Invariant: the first i rows are the constants of the first i nodes.
use mathlib.Core.Path.{refl, ◌∙◌}
use Rattle.write_sections.proofs.PutLaws.{written_none}
use Rattle.lowering.specs.Image.{section}
use Rattle.write_sections.proofs.RowLaws.{const-next, const-end}
use native.Mathlib.Omega.{arith}
use Rattle.write_sections.proofs.consts.Goals as goal

pub loop-i-init : goal.loop-i-init
unfolding section
loop-i-init c = (refl, written_none c.args.out.now)

pub loop-i-preserved : goal.loop-i-preserved
loop-i-preserved c =
    let a = c.args in
    let w =
    const-next a.sheet.now a.ks.now c.loop-i.i
    c.requires _ _ _
    (omega arith)
    c.kind.ensures c.field_a.ensures
    c.field_b.ensures c.put.ensures
    c.loop-i.invariant.1 in (
      c.put.auto.out ∙ c.loop-i.invariant.0,
      w,
    )

pub shape_of-out : goal.shape_of-out
shape_of-out c = c.loop-i.invariant.0

pub returns : goal.returns
returns c =
    const-end c.args.sheet.now c.args.ks.now
    c.loop-i.i c.requires (omega arith) c.loop-i.invariant.1
