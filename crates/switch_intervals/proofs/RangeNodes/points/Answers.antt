-- `switch_intervals::RangeNodes::points` meets its contract. The invariant is `Pointing`: the end points of the
-- ranges passed stand in the array.
use mathlib.Core.Path.{ap, ◌∙◌}
use native.Mathlib.Omega.{arith}
use borrow.Author.Rules.{rules, sfits_of}
use Rattle.switch_intervals.proofs.FirstLaws.{pointing-start, pointing-on, pointing-end}
use Rattle.sheet.proofs.WalkedLaws.{walked-start, walked-on, walked-end}
use Rattle.switch_intervals.proofs.RangeNodes.points.Goals as goal

pub loop-i-init : goal.loop-i-init
loop-i-init c =
    let gives = c.into_iter-i-iterator.ensures.into_iter_gives in
    let made = c.enumerate-i-items.ensures in
    let nodes = c.new-nodes.ensures in
    let zero = ap (λ e. e.count) gives ∙ made.count in (
      pointing-start _ _ _ _ _ (search rules) zero,
      walked-start _ _ _ _ (ap (λ e. e.iter) gives ∙ made.source) nodes.sheet nodes.left nodes.at zero,
    )

pub bounds-at-i : goal.bounds-at-i
bounds-at-i c =
    let steps = c.in-Some.ensures.steps in
    let goes = walked-on _ _ _ _ _ c.loop-i.invariant.1 steps.0 in
    omega (arith, steps.1, goes.less, c.args.self.now.few)

pub loop-i-preserved : goal.loop-i-preserved
loop-i-preserved c =
    let steps = c.in-Some.ensures.steps in
    let goes = walked-on _ _ _ _ _ c.loop-i.invariant.1 steps.0 in
    rw (steps.1, steps.2) (
      pointing-on _ _ _ _ _ c.loop-i.invariant.0 _ _ _ goes.less c.args.self.now.few goes.node (sfits_of c.start_of.type_inv)
          (sfits_of c.end_of.type_inv) c.start_of.ensures c.end_of.ensures,
      goes.walked,
    )

pub returns : goal.returns
returns c =
    let is = walked-end _ _ _ _ _ c.loop-i.invariant.1 c.in-None.ensures.steps.0.0 in
    λ read. pointing-end _ _ _ _ _ c.loop-i.invariant.0 (omega arith) c.args.self.now.few read.start read.count
