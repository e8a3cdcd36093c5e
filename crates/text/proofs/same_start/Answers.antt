-- `text::same_start` meets its contract. The loop's invariant: the strings agree below i. Assumes nothing.
use mathlib.Core.Path.{sym, ◌∙◌}
use native.Mathlib.Omega.{arith}
use Rattle.text.proofs.EightLaws.{bytes_of, agree-none, agree-block}
use Rattle.text.proofs.same_start.Goals as goal

pub loop-i-init : goal.loop-i-init
loop-i-init c = (omega arith, agree-none _ _)

pub loop-i-preserved : goal.loop-i-preserved
loop-i-preserved c =
    let s = c.args.a.now in
    let t = c.args.b.now in
    let b = bytes_of s c.shared_slice_known-1.given in
    let d = bytes_of t c.shared_slice_known-2-1.given in
    (omega arith, agree-block s t b d c.loop-i.i c.loop-i.invariant.1 (sym c.same_block.ensures ∙ c.if-same_block.true))

pub returns-else-same_block : goal.returns-else-same_block
returns-else-same_block c = c.loop-i.invariant

pub returns : goal.returns
returns c = c.loop-i.invariant
