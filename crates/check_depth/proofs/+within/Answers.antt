-- The cycle of calls {within}: the levels left fall by one at each call. Invariant of the walk: what is left of it equals the whole.
use mathlib.Core.Path.{sym, ◌∙◌}
use Prim.Native.Nat.{◌-◌}
use Rattle.sheet.proofs.SiblingLaws.{list_all-siblings, walk-goes, walk-stops, walk-ends}
use Rattle.check_depth.proofs.DepthLaws.{within_none, within_leaf, within-some}
use Rattle.check_depth.specs.Depth as depths
use Rattle.check_depth.proofs.+within.Goals as goal

pub returns-then-left-eq0 : goal.returns-then-left-eq0
returns-then-left-eq0 t c = let a = c.args in sym (within_none a.left a.sheet.now a.n c.if-left-eq0.true)

pub returns-then-m-eq0 : goal.returns-then-m-eq0
returns-then-m-eq0 t c =
    let a = c.args in
    sym (within_leaf a.left a.sheet.now a.n c.if-left-eq0.false (sym c.count-m.ensures ∙ c.if-m-eq0.true))

pub loop-j-init : goal.loop-j-init
loop-j-init t c =
    let a = c.args in
    cc (
      list_all-siblings (depths.within (a.left - 1) a.sheet.now) a.sheet.now c.count-m.result c.child.result,
      within-some a.left a.sheet.now a.n c.if-left-eq0.false,
    )

pub returns-then-not-within : goal.returns-then-not-within
returns-then-not-within t c =
    let a = c.args in
    walk-stops (depths.within (a.left - 1) a.sheet.now) c.loop-j.invariant c.in-Some.ensures.steps
    (sym c.within.ensures ∙ c.if-not-within.true)

pub loop-j-preserved : goal.loop-j-preserved
loop-j-preserved t c =
    let a = c.args in
    walk-goes (depths.within (a.left - 1) a.sheet.now) c.loop-j.invariant c.in-Some.ensures.steps
    (sym c.within.ensures ∙ c.if-not-within.false)

pub returns : goal.returns
returns t c =
    let a = c.args in
    walk-ends (depths.within (a.left - 1) a.sheet.now) c.loop-j.invariant c.in-None.ensures.steps.0
