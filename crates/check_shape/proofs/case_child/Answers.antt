-- `check_shape::case_child` meets its contract: one law for each way.
use Rattle.check_shape.proofs.KindsLaws.{case-first, case-later}
use mathlib.Core.Path.{sym, ◌∙◌}
use Rattle.check_shape.proofs.case_child.Goals as goal

pub returns-then-i-eq0 : goal.returns-then-i-eq0
returns-then-i-eq0 c = let a = c.args in c.case_value.ensures ∙ sym (case-first a.i a.k c.if-i-eq0.true)

pub returns : goal.returns
returns c = let a = c.args in sym (case-later a.i a.k c.if-i-eq0.false)
