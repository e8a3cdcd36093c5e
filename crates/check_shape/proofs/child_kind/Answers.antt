-- `check_shape::child_kind` meets its contract: one law for each way.
use Rattle.check_shape.proofs.KindsLaws.{child-switch, child-case, child-range, child-other}
use mathlib.Core.Path.{sym, ◌∙◌}
use Rattle.check_shape.proofs.child_kind.Goals as goal

pub returns-then-p-eq-SWITCH : goal.returns-then-p-eq-SWITCH
returns-then-p-eq-SWITCH c =
    let a = c.args in
    c.switch_child.ensures ∙ sym (child-switch a.p a.a a.b a.i a.k c.if-p-eq-SWITCH.true)

pub returns-then-p-eq-CASE : goal.returns-then-p-eq-CASE
returns-then-p-eq-CASE c =
    let a = c.args in
    c.case_child.ensures ∙ sym (child-case a.p a.a a.b a.i a.k c.if-p-eq-CASE.true)

pub returns-then-p-eq-RANGE : goal.returns-then-p-eq-RANGE
returns-then-p-eq-RANGE c =
    let a = c.args in
    sym (child-range a.p a.a a.b a.i a.k c.if-p-eq-RANGE.true)

pub returns : goal.returns
returns c =
    let a = c.args in
    c.expression.ensures
    ∙ sym (child-other a.p a.a a.b a.i a.k c.if-p-eq-SWITCH.false c.if-p-eq-CASE.false c.if-p-eq-RANGE.false)
