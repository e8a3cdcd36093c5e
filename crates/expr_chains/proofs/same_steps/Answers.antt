-- `expr_chains::same_steps` meets its contract. Invariant: what is left to compare equals the whole.
use mathlib.Core.Path.{ap, ap₂, sym, ◌∙◌}
use Rattle.expr_rules.specs.Links.{links_left, nodes_left}
use Rattle.expr_rules.proofs.LinksLaws.{links-begin, links-turn, links-over}
use Rattle.expr_chains.specs.Same.{same_steps, same_links}
use Rattle.expr_chains.proofs.LoopLaws.{same-on, same-off, same-longer, same_ends}
use Rattle.expr_chains.proofs.same_steps.Goals as goal

pub loop-p-init : goal.loop-p-init
unfolding same_links
loop-p-init c =
    let a = links-begin (ap links_left c.into_iter-p-iterator.ensures.into_iter_gives ∙ c.links_of-p-items.ensures) in
    let b = links-begin c.links_of-others.ensures in
    (a.left, b.left, ap₂ (same_steps c.args.sheet.now) a.nodes b.nodes)

pub returns-then-not-same_step : goal.returns-then-not-same_step
returns-then-not-same_step c =
    let s = c.args.sheet.now in
    let r = c.loop-p.invariant in
    let p = links-turn c.next.new.self r.0 c.in-Some.ensures.steps in
    let q = links-turn c.next-in-loop-p.new.self r.1 c.in-Some-next.ensures.steps in
    sym (same-off s _ _ _ _ (sym (c.same_step.ensures p.says q.says) ∙ c.if-not-same_step.true))
    ∙ sym (ap₂ (same_steps s) p.nodes q.nodes)
    ∙ r.2

pub loop-p-preserved : goal.loop-p-preserved
loop-p-preserved c =
    let s = c.args.sheet.now in
    let r = c.loop-p.invariant in
    let p = links-turn c.next.new.self r.0 c.in-Some.ensures.steps in
    let q = links-turn c.next-in-loop-p.new.self r.1 c.in-Some-next.ensures.steps in
    let on = same-on s _ _ _ _ (sym (c.same_step.ensures p.says q.says) ∙ c.if-not-same_step.false) in
    (p.left, q.left, sym on ∙ sym (ap₂ (same_steps s) p.nodes q.nodes) ∙ r.2)

pub returns-in-None-next : goal.returns-in-None-next
returns-in-None-next c =
    let s = c.args.sheet.now in
    let r = c.loop-p.invariant in
    let p = links-turn c.next.new.self r.0 c.in-Some.ensures.steps in
    sym (same-longer s _ _) ∙ sym (ap₂ (same_steps s) p.nodes (links-over c.loop-p.others c.in-None-next.ensures.steps.0)) ∙ r.2

pub returns : goal.returns
returns c =
    let s = c.args.sheet.now in
    let r = c.loop-p.invariant in
    same_ends s c.loop-p.others c.next-2.new.self c.next-2.result c.is_none.result c.is_none.ensures r.1 c.next-2.ensures.steps
    ∙ sym (ap (λ l. same_steps s l (nodes_left c.loop-p.others)) (links-over c.loop-p.p-iterator c.in-None.ensures.steps.0))
    ∙ r.2
