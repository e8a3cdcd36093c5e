-- `write_sections::tokens` meets its contract. Invariant: the first i words are the tokens of the first i nodes.
use mathlib.Core.Path.{refl}
use Rattle.write_sections.proofs.PutLaws.{written_none, written-length}
use Rattle.sheet.specs.Node.{field_c}
use Rattle.write_sections.proofs.RowLaws.{map_next, map-end}
use native.Mathlib.Omega.{arith}
use Rattle.write_sections.proofs.tokens.Goals as goal

pub loop-i-init : goal.loop-i-init
loop-i-init c = (refl, written_none c.args.out.now)

pub loop-i-preserved : goal.loop-i-preserved
loop-i-preserved c =
    let a = c.args in
    let w =
    map_next (field_c a.sheet.now) a.ks.now c.loop-i.i c.field_c.result
    c.requires (omega arith) c.field_c.ensures
    c.loop-i.invariant.1 in
    (written-length w, w)

pub shape_of-out : goal.shape_of-out
shape_of-out c = c.loop-i.invariant.0

pub returns : goal.returns
returns c =
    map-end (field_c c.args.sheet.now) c.args.ks.now
    c.loop-i.i c.requires (omega arith) c.loop-i.invariant.1
