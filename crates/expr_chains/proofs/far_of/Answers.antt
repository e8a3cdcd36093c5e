-- `expr_chains::far_of` meets its contract. Invariant: what is told of the links passed, with those left, tells of all.
use mathlib.Core.Path.{ap, ◌∙◌}
use native.Mathlib.Omega.{arith}
use Rattle.expr_rules.specs.Links.{links_left}
use Rattle.expr_rules.proofs.LinksLaws.{links-begin, links-turn, links-over}
use Rattle.expr_chains.proofs.WalkedLaws.{few-operands, far-begins, far-goes, far-ends}
use Rattle.expr_chains.proofs.far_of.Goals as goal

pub loop-p-init : goal.loop-p-init
loop-p-init c = far-begins (links-begin (ap links_left c.into_iter-p-iterator.ensures.into_iter_gives ∙ c.links_of-p-items.ensures))

pub overflow_add-operands : goal.overflow_add-operands
overflow_add-operands c =
    let r = c.loop-p.invariant in
    let u = links-turn c.next.new.self r.left c.in-Some.ensures.steps in
    omega (arith, few-operands r.taking u.nodes (c.width-operands.ensures _ u.says))

pub loop-p-preserved : goal.loop-p-preserved
loop-p-preserved c =
    let r = c.loop-p.invariant in
    let u = links-turn c.next.new.self r.left c.in-Some.ensures.steps in
    far-goes r u (c.distance_with.ensures _ u.says) c.min-distance.ensures (c.width-operands.ensures _ u.says)

pub returns : goal.returns
returns c = far-ends c.loop-p.invariant (links-over c.loop-p.p-iterator c.in-None.ensures.steps.0)
