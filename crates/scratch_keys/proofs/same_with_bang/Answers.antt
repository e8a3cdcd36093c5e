-- `scratch_keys::same_with_bang` meets its contract: the last byte, and the bytes before it.
use mathlib.Core.Path.{sym, ◌∙◌}
use borrow.Author.Tests.{ne_eqb}
use Rattle.scratch_keys.proofs.BangLaws.{bang-none, ends-other, ends-bang}
use Rattle.scratch_keys.proofs.same_with_bang.Goals as goal

pub returns-in-None : goal.returns-in-None
returns-in-None c = let a = c.args in sym (bang-none a.x.now a.y.now c.in-None.ensures.cases)

pub returns-then-last-eq33 : goal.returns-then-last-eq33
returns-then-last-eq33 c =
    let a = c.args in
    let cut = c.in-Some.ensures.cases in
    c.same_bytes.ensures ∙ sym (ends-bang a.x.now a.y.now c.in-Some.front.now c.in-Some.last.now cut.0 cut.1 c.if-last-eq33.true)

pub returns-else-last-eq33 : goal.returns-else-last-eq33
returns-else-last-eq33 c =
    let a = c.args in
    let cut = c.in-Some.ensures.cases in
    ne_eqb _ _ c.if-last-eq33.false
    ∙ sym (ends-other a.x.now a.y.now c.in-Some.front.now c.in-Some.last.now cut.0 cut.1 c.if-last-eq33.false)
