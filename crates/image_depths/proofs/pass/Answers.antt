-- `image_depths::pass` meets its contract.
use mathlib.Core.Path.{sym}
use native.Mathlib.Omega.{arith}
use Rattle.image_depths.proofs.MarkLaws.{passed_none, passed_deep, passed_on}
use Rattle.image_depths.proofs.pass.Goals as goal

pub returns-then-m-eq0 : goal.returns-then-m-eq0
returns-then-m-eq0 c =
    let a = c.args in
    λ Q. passed_none a.image.now.words.now a.p _ a.found.now a.rows.now c.word_of-m.ensures c.if-m-eq0.true

pub returns-in_default : goal.returns-in_default
returns-in_default c =
    let a = c.args in
    λ Q. passed_deep a.image.now.words.now a.p _ a.found.now a.rows.now c.word_of-m.ensures _ _ _ _ c.if-m-eq0.false
    c.after.ensures.value (omega (arith, c.in_default.ensures)) c.code_at-c.ensures

pub returns : goal.returns
returns c =
    let a = c.args in
    λ Q. passed_on a.image.now.words.now a.p _ a.found.now a.rows.now c.word_of-m.ensures _ _ _ _ c.if-m-eq0.false
    c.after.ensures.value (rw (sym c.in-Ok.ensures.1) c.hand_on.ensures) c.code_at-c.ensures Q
