-- `text::same_long` meets its contract. The loop's invariant: the strings agree below i. Assumes nothing.
use mathlib.Core.Path.{sym, ◌∙◌}
use native.Mathlib.Omega.{arith}
use Rattle.text.proofs.EightLaws.{bytes_of, agree-eight, eight-not, last-eight}
use Rattle.text.proofs.same_long.Goals as goal

pub loop-i-init : goal.loop-i-init
loop-i-init c = c.same_start-i.ensures

pub loop-i-preserved : goal.loop-i-preserved
loop-i-preserved c =
    let s = c.args.a.now in
    let t = c.args.b.now in
    let b = bytes_of s c.shared_slice_known-1.given in
    let d = bytes_of t c.shared_slice_known-2-1.given in
    let i = c.loop-i.i in
    let e = sym c.eight.ensures ∙ (c.if-eight.true ∙ c.eight-in-loop-i.ensures) in
    (omega arith, agree-eight s t b d i i (omega arith) c.loop-i.invariant.1 e)

pub returns-else-eight : goal.returns-else-eight
returns-else-eight c =
    let f = c.args in
    let here = c.eight.ensures in
    sym (eight-not f.a.now f.b.now c.loop-i.i (λ e. c.if-eight.false (here ∙ (e ∙ sym c.eight-in-loop-i.ensures))))

pub returns : goal.returns
returns c =
    let s = c.args.a.now in
    let t = c.args.b.now in
    let b = bytes_of s c.shared_slice_known-1.given in
    let d = bytes_of t c.shared_slice_known-2-1.given in
    last-eight s t b d c.requires.1 c.loop-i.i _ (omega arith) (omega arith) c.loop-i.invariant.1
    c.eight-2.ensures
    c.eight-3.ensures
