-- With a namespace the way is the one of its kind, and else the same.
use Rattle.std.proofs.Common.{sym, ◌∙◌}
use Rattle.sheet.proofs.NamespaceLaws.{plain-here, qualified-here}
use Rattle.expr_emit.proofs.WaySays.{lowered-within, lowered-plain}
use Rattle.expr_emit.proofs.calls.way_lowered.Goals as goal

pub returns-then-namespace-ne0 : goal.returns-then-namespace-ne0
returns-then-namespace-ne0 c = λ h.
    let a = c.args in
    let q = qualified-here a.sheet.now a.j (λ e. c.if-namespace-ne0.true (c.namespace.ensures ∙ e)) in
    c.within.ensures
    ∙ lowered-within a.sheet.now a.j q (c.way_first-way.ensures h)

pub returns : goal.returns
returns c = λ h.
    let a = c.args in
    let q = plain-here a.sheet.now a.j (sym c.namespace.ensures ∙ c.if-namespace-ne0.false) in
    lowered-plain a.sheet.now a.j q (c.way_first-way.ensures h)
