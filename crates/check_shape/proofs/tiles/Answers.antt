-- `check_shape::tiles` meets its contract. Invariant of the walk: what is left to do from child i on, which is node j, equals the whole.
use mathlib.Core.Path.{◌≡◌, sym, ◌∙◌}
use native.Mathlib.Omega.{arith}
use Rattle.sheet.specs.Node as nodes
use Rattle.check_shape.specs.Shape as shape
use Rattle.check_shape.proofs.ReadLaws.{fits_below, child-read, walk-starts, walk_end, walk_more, walk-fails, walk-done}
use Rattle.check_shape.proofs.tiles.Goals.{After-child_ok}
use Rattle.check_shape.proofs.tiles.Goals as goal

-- the child's test is the sheet's
fits : (c : After-child_ok) → let s = c.args.sheet.now in let n = c.args.n in
    c.child_ok.result ≡ shape.child_fits s (nodes.kind s n) (nodes.field_a s n) (nodes.field_b s n) c.args.e c.loop-i.i c.loop-i.j
fits c =
    let a = c.args in
    child-read a.sheet.now a.n a.e a.v.count c.loop-i.i c.loop-i.j c.requires.p_value.0 c.requires.a_value.0 c.requires.a_value.1
    c.child_ok.ensures

pub overflow_add-j : goal.overflow_add-j
overflow_add-j c = fits_below c.ranges.e c.requires.n_bound

pub loop-i-init : goal.loop-i-init
loop-i-init c =
    let a = c.args in
    (c.requires.n_bound, walk-starts a.sheet.now a.n a.e a.v.count c.requires.p_value.1)

pub overflow_add-j-in-loop-i : goal.overflow_add-j-in-loop-i
overflow_add-j-in-loop-i c =
    let a = c.args in
    let l = c.loop-i in
    let right = sym (fits (goal.at.overflow_add-j-in-loop-i c).After-child_ok) ∙ c.if-not-child_ok.false in
    fits_below c.ranges.e (walk_end a.sheet.now a.n a.e a.v.count l.i l.j c.span-j.ensures right)

pub loop-i-preserved : goal.loop-i-preserved
loop-i-preserved c =
    let a = c.args in
    let l = c.loop-i in
    let right = sym (fits (goal.at.loop-i-preserved c).After-child_ok) ∙ c.if-not-child_ok.false in (
      walk_end a.sheet.now a.n a.e a.v.count l.i l.j c.span-j.ensures right,
      walk_more a.sheet.now a.n a.e a.v.count l.i l.j c.span-j.ensures right c.loop-i-test.true l.invariant.1,
    )

pub returns-then-not-child_ok : goal.returns-then-not-child_ok
returns-then-not-child_ok c =
    let a = c.args in
    let l = c.loop-i in
    let wrong = sym (fits (goal.at.returns-then-not-child_ok c).After-child_ok) ∙ c.if-not-child_ok.true in
    walk-fails a.sheet.now a.n a.e a.v.count l.i l.j c.loop-i-test.true wrong l.invariant.1

pub returns : goal.returns
returns c =
    let a = c.args in
    let l = c.loop-i in
    walk-done a.sheet.now a.n a.e a.v.count l.i l.j (omega arith) l.invariant.1
