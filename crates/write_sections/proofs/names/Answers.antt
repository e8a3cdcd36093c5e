-- `write_sections::names` meets its contract. Invariant: the first i rows are the names of the first i keys.
use mathlib.Core.Path.{refl, ◌∙◌}
use Rattle.write_sections.proofs.PutLaws.{written_none}
use Rattle.lowering.specs.Image.{section}
use Rattle.write_sections.proofs.RowLaws.{name-next, name-end}
use native.Mathlib.Omega.{arith}
use Rattle.write_sections.proofs.names.Goals as goal

pub loop-i-init : goal.loop-i-init
unfolding section
loop-i-init c = (refl, written_none c.args.out.now)

pub loop-i-preserved : goal.loop-i-preserved
loop-i-preserved c =
    let a = c.args in
    let w =
    name-next a.sheet.now a.ks.now c.loop-i.i
    c.requires _ _ _
    (omega arith) c.text_of.ensures
    c.mark_of.ensures c.namespace_of.ensures c.put.ensures
    c.loop-i.invariant.1 in
    (c.put.auto.out ∙ c.loop-i.invariant.0, w)

pub shape_of-out : goal.shape_of-out
shape_of-out c = c.loop-i.invariant.0

pub returns : goal.returns
returns c =
    name-end c.args.sheet.now c.args.ks.now
    c.loop-i.i c.requires (omega arith) c.loop-i.invariant.1
