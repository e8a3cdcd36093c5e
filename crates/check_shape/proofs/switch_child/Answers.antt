-- `check_shape::switch_child` meets its contract: one law for each way.
use Rattle.check_shape.proofs.KindsLaws.{switch-pairs, switch-cases, switch-ranges}
use mathlib.Core.Path.{sym, ◌∙◌}
use Rattle.check_shape.proofs.switch_child.Goals as goal

pub returns-then-at-pairs : goal.returns-then-at-pairs
returns-then-at-pairs c =
    let a = c.args in
    c.expression.ensures ∙ sym (switch-pairs a.blocks a.cases a.i a.k c.if-at-pairs.true)

pub returns-then-at-pairs-2 : goal.returns-then-at-pairs-2
returns-then-at-pairs-2 c =
    let a = c.args in
    sym (switch-cases a.blocks a.cases a.i a.k c.if-at-pairs.false c.if-at-pairs-2.true)

pub returns : goal.returns
returns c =
    let a = c.args in
    sym (switch-ranges a.blocks a.cases a.i a.k c.if-at-pairs.false c.if-at-pairs-2.false)
