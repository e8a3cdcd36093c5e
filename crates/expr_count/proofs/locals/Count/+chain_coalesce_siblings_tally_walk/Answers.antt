-- The cycle of calls of the count. The measure: four for each level left, and a step for each member between a node and its operands.
-- Invariant of both loops: what is passed and what is left make the whole, cut off.
use mathlib.Core.Path.{refl, sym, ap, ◌∙◌}
use Rattle.expr_count.specs.Locals.{answer}
use Rattle.expr_count.specs.Link.{reach_number}
use Rattle.expr_count.specs.Plan.{is_leaf}
use Rattle.expr_count.proofs.CodeLaws.{sum-none, leaf-tally, tally-none, tally-coalesce, tally-chain}
use Rattle.expr_count.proofs.AnswerLaws.{chain-plain, rest-is, sum-begins, sum-more, sum-passes}
use Rattle.expr_count.proofs.AnswerLaws.{sum_goes, sum-ends, coalesce-counted, tally-parted}
use Rattle.expr_count.proofs.AnswerLaws.{walk_begins, walk-goes, walk-failed, walk-lost, walk_ends}
use Rattle.expr_count.proofs.AnswerLaws.{reach-begins, reach-goes, reach-lost, reach-ends}
use Rattle.expr_count.proofs.FarLaws.{comes-least}
use Rattle.expr_count.proofs.AnswerLaws.{chain-stayed, chain-failed, chain-lowered}
use native.Mathlib.Omega.{arith}
use Rattle.expr_rules.specs.Links.{links_left}
use Rattle.expr_rules.proofs.LinksLaws.{links-begin, links-turn, links-over}
use Rattle.expr_count.specs.Count as counts
use Rattle.expr_count.proofs.locals.Count.+chain_coalesce_siblings_tally_walk.Goals as goal

pub chain-returns-then-is_plain : goal.chain-returns-then-is_plain
chain-returns-then-is_plain t c =
    let a = c.args in
    let it = a.self.now in
    chain-plain it.sheet.now (counts.tally_by (answer it.told it.sheet.now) a.levels it.sheet.now) a.j
    c.is_plain.ensures
    c.if-is_plain.true
    c.instructions.ensures

pub chain-returns-in-Nowhere : goal.chain-returns-in-Nowhere
unfolding reach_number
chain-returns-in-Nowhere t c =
    let a = c.args in
    let it = a.self.now in
    chain-stayed it.sheet.now (counts.tally_by (answer it.told it.sheet.now) a.levels it.sheet.now) a.j
    c.walk-w.ensures.far_value (ap reach_number c.in-Nowhere.is) c.instructions-in-Nowhere.ensures

pub chain-returns-in-TakenBack : goal.chain-returns-in-TakenBack
unfolding reach_number
chain-returns-in-TakenBack t c =
    let a = c.args in
    let it = a.self.now in
    chain-failed it.sheet.now (counts.tally_by (answer it.told it.sheet.now) a.levels it.sheet.now) a.j
    c.walk-w.ensures.far_value (ap reach_number c.in-TakenBack.is)
    c.walk-w.ensures.sum_value c.taken_back.ensures c.instructions-in-TakenBack.ensures c.plus.ensures

pub chain-returns-in-Whole : goal.chain-returns-in-Whole
unfolding reach_number
chain-returns-in-Whole t c =
    let a = c.args in
    let it = a.self.now in
    let whole = ap reach_number c.in-Whole.is in
    chain-lowered it.sheet.now (counts.tally_by (answer it.told it.sheet.now) a.levels it.sheet.now) a.j
    c.walk-w.ensures.far_value (λ q. omega (arith, whole, q)) (λ q. omega (arith, whole, q))
    c.walk-w.ensures.sum_value c.child-root.ensures c.temporary-n.ensures c.siblings-lowered.ensures
    c.plus-in-Whole.ensures c.instructions-in-Whole.ensures c.plus-in-Whole-2.ensures

pub coalesce-returns : goal.coalesce-returns
coalesce-returns t c =
    let a = c.args in
    let it = a.self.now in
    coalesce-counted it.sheet.now (counts.tally_by (answer it.told it.sheet.now) a.levels it.sheet.now) a.j
    c.count.ensures c.saturating_sub-n.ensures
    c.child-first.ensures c.siblings-others.ensures c.skip.ensures c.tally.ensures c.plus.ensures

pub siblings-returns-then-of-eq0 : goal.siblings-returns-then-of-eq0
siblings-returns-then-of-eq0 t c =
    let a = c.args in
    let it = a.self.now in
    sum-none it.sheet.now (counts.tally_by (answer it.told it.sheet.now) a.levels it.sheet.now) a.gap a.of.n a.of.from
    c.if-of-eq0.true c.nothing.ensures

pub siblings-loop-j-init : goal.siblings-loop-j-init
siblings-loop-j-init t c =
    let a = c.args in
    let it = a.self.now in
    let w = c.new-j-items.ensures in
    let whole = rest-is c.into_iter-j-iterator.ensures.into_iter_gives w.sheet w.left w.at in
    sum-begins it.sheet.now (counts.tally_by (answer it.told it.sheet.now) a.levels it.sheet.now) a.gap a.of.n a.of.from
    c.nothing-sum.ensures
    whole

pub siblings-overflow_add-leaves : goal.siblings-overflow_add-leaves
siblings-overflow_add-leaves t c =
    let a = c.args in
    let it = a.self.now in
    let s = it.sheet.now in
    let t = counts.tally_by (answer it.told s) a.levels s in
    omega (arith, sum-more s t a.gap a.of.n a.of.from c.loop-j.invariant c.in-Some.ensures.steps)

pub siblings-loop-j-preserved-then-is_leaf : goal.siblings-loop-j-preserved-then-is_leaf
siblings-loop-j-preserved-then-is_leaf t c =
    let a = c.args in
    let it = a.self.now in
    let s = it.sheet.now in
    let leaf-is = c.is_leaf.ensures ∙ ap is_leaf c.kind.ensures in
    let one = leaf-tally (answer it.told s) a.levels s _ (sym leaf-is ∙ c.if-is_leaf.true) in
    sum-passes s (counts.tally_by (answer it.told s) a.levels s) a.gap a.of.n a.of.from c.loop-j.invariant c.in-Some.ensures.steps
    one refl refl

pub siblings-loop-j-preserved : goal.siblings-loop-j-preserved
siblings-loop-j-preserved t c =
    let a = c.args in
    let it = a.self.now in
    let s = it.sheet.now in
    sum_goes s (counts.tally_by (answer it.told s) a.levels s) a.gap a.of.n a.of.from c.loop-j.invariant c.in-Some.ensures.steps
    c.tally.ensures c.plus-sum.ensures refl

pub siblings-returns : goal.siblings-returns
siblings-returns t c =
    let a = c.args in
    let it = a.self.now in
    sum-ends it.sheet.now (counts.tally_by (answer it.told it.sheet.now) a.levels it.sheet.now) a.gap a.of.n a.of.from
    c.loop-j.invariant c.in-None.ensures.steps.0 c.spaced.ensures c.plus.ensures

pub tally-returns-then-levels-eq0 : goal.tally-returns-then-levels-eq0
tally-returns-then-levels-eq0 t c =
    let a = c.args in
    let it = a.self.now in
    c.instructions.ensures ∙ tally-none (answer it.told it.sheet.now) a.levels it.sheet.now a.j c.if-levels-eq0.true

pub tally-returns-in-Parts : goal.tally-returns-in-Parts
tally-returns-in-Parts t c =
    let a = c.args in
    let it = a.self.now in
    tally-parted (answer it.told it.sheet.now) a.levels it.sheet.now a.j
    c.if-levels-eq0.false c.plan.ensures
    c.in-Parts.is
    c.siblings.ensures c.plus.ensures

pub tally-returns-in-Coalesce : goal.tally-returns-in-Coalesce
tally-returns-in-Coalesce t c =
    let a = c.args in
    let it = a.self.now in
    let told = sym c.plan.ensures ∙ c.in-Coalesce.is in
    c.coalesce.ensures ∙ tally-coalesce (answer it.told it.sheet.now) a.levels it.sheet.now a.j
    c.if-levels-eq0.false told

pub tally-returns-in-Chain : goal.tally-returns-in-Chain
tally-returns-in-Chain t c =
    let a = c.args in
    let it = a.self.now in
    let told = sym c.plan.ensures ∙ c.in-Chain.is in
    c.chain.ensures ∙ tally-chain (answer it.told it.sheet.now) a.levels it.sheet.now a.j
    c.if-levels-eq0.false told

pub walk-loop-p-init : goal.walk-loop-p-init
walk-loop-p-init t c =
    let begun = links-begin (ap links_left c.into_iter-p-iterator.ensures.into_iter_gives ∙ c.links_of-p-items.ensures) in
    (walk_begins begun c.nothing-sum.ensures, reach-begins begun)

pub walk-loop-p-preserved : goal.walk-loop-p-preserved
walk-loop-p-preserved t c =
    let l = c.loop-p in
    let u = links-turn c.next.new.self l.invariant.0.left c.in-Some.ensures.steps in
    let told = c.in-Lowers.is in
    let says = c.link_with.ensures _ u.says in (
      walk-goes l.invariant.0 u says told c.siblings.ensures c.plus-sum.ensures,
      reach-goes l.invariant.1 u says told,
    )

pub walk-returns-in-Fails : goal.walk-returns-in-Fails
walk-returns-in-Fails t c =
    let l = c.loop-p in
    let u = links-turn c.next.new.self l.invariant.0.left c.in-Some.ensures.steps in
    record {
      sum_value = walk-failed l.invariant.0 u (c.link_with.ensures _ u.says) c.in-Fails.is;
      far_value = comes-least c.args.self.now.sheet.now c.far_of-far.ensures;
    }

pub walk-returns-in-Nowhere : goal.walk-returns-in-Nowhere
unfolding reach_number
walk-returns-in-Nowhere t c =
    let l = c.loop-p in
    let u = links-turn c.next.new.self l.invariant.0.left c.in-Some.ensures.steps in
    let says = c.link_with.ensures _ u.says in
    record { sum_value = walk-lost l.invariant.0 u says c.in-Nowhere.is; far_value = reach-lost l.invariant.1 u says c.in-Nowhere.is }

pub walk-returns : goal.walk-returns
unfolding reach_number
walk-returns t c =
    let l = c.loop-p in
    let none = links-over l.p-iterator c.in-None.ensures.steps.0 in
    record { sum_value = walk_ends l.invariant.0 none; far_value = reach-ends l.invariant.1 none }
