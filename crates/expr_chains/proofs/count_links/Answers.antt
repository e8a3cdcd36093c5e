-- `expr_chains::count_links` meets its contract. Invariant: the links passed and those left are all, and so are their operands.
use mathlib.Core.Path.{ap, ◌∙◌}
use native.Mathlib.Omega.{arith}
use Rattle.expr_rules.specs.Links.{links_left}
use Rattle.expr_rules.proofs.LinksLaws.{links-begin, links-turn, links-over}
use Rattle.expr_chains.proofs.WalkedLaws.{few-operands, count-begins, count-more, count-goes, count-ends}
use Rattle.expr_chains.proofs.count_links.Goals as goal

pub loop-p-init : goal.loop-p-init
loop-p-init c = count-begins (links-begin (ap links_left c.into_iter-p-iterator.ensures.into_iter_gives ∙ c.links_of-p-items.ensures))

pub overflow_add-links : goal.overflow_add-links
overflow_add-links c =
    let r = c.loop-p.invariant in
    omega (arith, count-more r (links-turn c.next.new.self r.left c.in-Some.ensures.steps))

pub overflow_add-operands : goal.overflow_add-operands
overflow_add-operands c =
    let r = c.loop-p.invariant in
    let u = links-turn c.next.new.self r.left c.in-Some.ensures.steps in
    omega (arith, few-operands r.taking u.nodes (c.width-operands.ensures _ u.says))

pub loop-p-preserved : goal.loop-p-preserved
loop-p-preserved c =
    let r = c.loop-p.invariant in
    let u = links-turn c.next.new.self r.left c.in-Some.ensures.steps in
    count-goes r u (c.width-operands.ensures _ u.says)

pub returns : goal.returns
returns c = count-ends c.loop-p.invariant (links-over c.loop-p.p-iterator c.in-None.ensures.steps.0)
