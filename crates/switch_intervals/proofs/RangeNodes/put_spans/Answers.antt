-- `switch_intervals::RangeNodes::put_spans` meets its contract. The invariant is `Spanning`: the ranges passed
-- stand in the table, and are marked.
use mathlib.Core.Path.{ap, ◌∙◌}
use native.Mathlib.Omega.{arith}
use Rattle.switch_split.proofs.HeldLaws.{excesses-length}
use Rattle.switch_intervals.proofs.SpanLaws.{spanning-start, spanning-on, spanning-end}
use Rattle.sheet.proofs.WalkedLaws.{walked-start, walked-on, walked-end}
use Rattle.switch_intervals.proofs.RangeNodes.put_spans.Goals as goal

pub loop-i-init : goal.loop-i-init
loop-i-init c =
    let gives = c.into_iter-i-iterator.ensures.into_iter_gives in
    let made = c.enumerate-i-items.ensures in
    let nodes = c.new-nodes.ensures in
    let zero = ap (λ e. e.count) gives ∙ made.count in (
      spanning-start _ _ _ _ _ _ _ c.args.table.now.whole zero,
      walked-start _ _ _ _ (ap (λ e. e.iter) gives ∙ made.source) nodes.sheet nodes.left nodes.at zero,
    )

pub put_span-requires : goal.put_span-requires
put_span-requires c =
    let steps = c.in-Some.ensures.steps in
    let goes = walked-on _ _ _ _ _ c.loop-i.invariant.1 steps.0 in
    omega (arith, steps.1, goes.less, c.args.self.now.few)

pub loop-i-preserved : goal.loop-i-preserved
loop-i-preserved c =
    let long = excesses-length c.args.cuts.now.at.now in
    let steps = c.in-Some.ensures.steps in
    let goes = walked-on _ _ _ _ _ c.loop-i.invariant.1 steps.0 in
    rw steps.2 (
      spanning-on _ _ _ _ _ _ _ _ _ (omega (arith, long, c.args.cuts.now.few)) c.loop-i.invariant.0 _ _ _ goes.node goes.less
          c.args.self.now.few c.put_span.new.table.whole c.put_span.auto.marks (rw steps.1 at c.put_span.ensures),
      goes.walked,
    )

pub returns : goal.returns
returns c =
    let long = excesses-length c.args.cuts.now.at.now in
    let is = walked-end _ _ _ _ _ c.loop-i.invariant.1 c.in-None.ensures.steps.0.0 in
    spanning-end _ _ _ _ _ _ _ _ _ (omega (arith, long, c.args.cuts.now.few)) c.loop-i.invariant.0 (omega arith)
