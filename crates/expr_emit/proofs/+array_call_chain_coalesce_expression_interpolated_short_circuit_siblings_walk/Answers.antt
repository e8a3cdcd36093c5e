-- Each function does to the scratch what its definition does. The measure: four times the levels, plus the
-- function's rank among its callers.
use Rattle.sheet.proofs.WalkedLaws.{walked-start, walked-on, walked-end}
use Rattle.std.proofs.Common.{refl, sym, ap, ◌∙◌, arith}
use Rattle.expr_emit.proofs.EndLaws.{end-held}
use Rattle.expr_rules.specs.Links.{links_left}
use Rattle.expr_chains.specs.Walked.{flattens_at, lowers_at}
use Rattle.expr_rules.proofs.LinksLaws.{links-begin, links-turn, links-over}
use Rattle.expr_emit.proofs.StepDoes.{link-ends}
use Rattle.expr_emit.proofs.WalkDoes.{walk-starts, walk-done, walk-fails, walk-on}
use Rattle.expr_emit.proofs.ArmDoes.{arm-none, arm-boolean, arm-unit, arm-constant, arm-variable, arm-this, arm-residual, arm-interpolated}
use Rattle.expr_emit.proofs.ArmDoes.{arm-array, arm-call, arm-chain, arm-and, arm-or, arm-coalesce}
use Rattle.expr_emit.proofs.CycleMore.{short-does, coalesce-does, call-by-way, chain-does, chain-kept, chain_back}
use Rattle.expr_emit.proofs.CycleDoes.{rows_start, rows-done, rows_more, array-does, array-kept, interpolated-does}
use Rattle.scratch_store.proofs.DoesLaws.{held-slots, does-held}
use Rattle.expr_emit.proofs.+array_call_chain_coalesce_expression_interpolated_short_circuit_siblings_walk.Goals as goal

pub array-returns-then-of-le-MAX_ELEMENTS-clause-does : goal.array-returns-then-of-le-MAX_ELEMENTS-clause-does
array-returns-then-of-le-MAX_ELEMENTS-clause-does t c =
    λ l C v. array-does _ _ _ _ C v c.of-of.ensures c.if-of-le-MAX_ELEMENTS.true
    c.position.ensures (c.siblings.ensures.does l) (c.emit.ensures.does l _ tt)

pub array-returns-else-of-le-MAX_ELEMENTS-clause-does : goal.array-returns-else-of-le-MAX_ELEMENTS-clause-does
array-returns-else-of-le-MAX_ELEMENTS-clause-does t c =
    λ l C v. array-kept _ _ _ c.of-of.ensures c.if-of-le-MAX_ELEMENTS.false (c.residual.ensures.does l _)

pub call-returns-clause-does : goal.call-returns-clause-does
call-returns-clause-does t c =
    λ l C v k.
    does-held (λ a h.
    call-by-way _ _ _ _ _ C v k (c.way_of-w.ensures (held-slots refl h))
    c.arguments.ensures (c.open-at.ensures.does l).0 (c.open-at.ensures.does l).1
    (c.siblings.ensures.does l)
    (c.close.ensures.does l))

pub chain-returns-in-Nowhere-clause-does : goal.chain-returns-in-Nowhere-clause-does
unfolding flattens_at
chain-returns-in-Nowhere-clause-does t c =
    let flat = sym c.far_of-far.ensures.flattens_is ∙ ap flattens_at c.in-Nowhere.is in
    λ l C L. chain-kept _ _ flat (c.residual.ensures.does l _)

pub chain-returns-in-TakenBack-clause-does : goal.chain-returns-in-TakenBack-clause-does
unfolding flattens_at lowers_at
chain-returns-in-TakenBack-clause-does t c =
    let far = c.far_of-far.ensures in
    λ l C L.
    chain_back c.walk.new.store.state _ _ _ C L c.child.ensures (sym far.flattens_is ∙ ap flattens_at c.in-TakenBack.is)
    (sym far.lowers_is ∙ ap lowers_at c.in-TakenBack.is) (c.root_name.ensures.does l) (c.walk.ensures.does l)
    c.take_back.ensures
    (c.residual-in-TakenBack.ensures.does l _)

pub chain-returns-in-Whole-clause-does : goal.chain-returns-in-Whole-clause-does
unfolding lowers_at
chain-returns-in-Whole-clause-does t c =
    let far = c.far_of-far.ensures in
    λ l C L.
    chain-does _ _ _ _ C L c.child-root.ensures c.temporary-n.ensures (sym far.lowers_is ∙ ap lowers_at c.in-Whole.is)
    (c.root_name-in-Whole.ensures.does l) (c.walk-in-Whole.ensures.does l) (c.siblings.ensures.does l)
    (c.close_chain.ensures.does l far.operands_are)

pub coalesce-returns-clause-does : goal.coalesce-returns-clause-does
coalesce-returns-clause-does t c =
    λ l C v some. coalesce-does _ _ _ _ _ _ _ C v some c.count.ensures c.saturating_sub-n.ensures
    c.child-first.ensures c.skip.ensures (c.siblings.ensures.does l)
    (c.expression.ensures.does l)

pub expression-returns-then-levels-eq0-clause-does : goal.expression-returns-then-levels-eq0-clause-does
expression-returns-then-levels-eq0-clause-does t c =
    λ l C v. arm-none _ _ c.if-levels-eq0.true (c.residual.ensures.does l _)

pub expression-returns-in-Boolean-clause-does : goal.expression-returns-in-Boolean-clause-does
expression-returns-in-Boolean-clause-does t c =
    λ l C v. arm-boolean _ _ c.if-levels-eq0.false _ c.rule.ensures _ c.in-Boolean.is
    c.field_a.ensures (c.emit.ensures.does l _ tt)

pub expression-returns-in-Unit-clause-does : goal.expression-returns-in-Unit-clause-does
expression-returns-in-Unit-clause-does t c =
    λ l C v. arm-unit _ _ c.if-levels-eq0.false _ c.rule.ensures c.in-Unit.is
    (c.emit-in-Unit.ensures.does l _ tt)

pub expression-returns-in-Constant-clause-does : goal.expression-returns-in-Constant-clause-does
expression-returns-in-Constant-clause-does t c =
    λ l C v. arm-constant _ _ c.if-levels-eq0.false _ c.rule.ensures v c.in-Constant.is
    (c.constant.ensures.does l)

pub expression-returns-in-Interpolated-clause-does : goal.expression-returns-in-Interpolated-clause-does
expression-returns-in-Interpolated-clause-does t c =
    λ l C v. arm-interpolated _ _ c.if-levels-eq0.false _ c.rule.ensures c.in-Interpolated.is
    (c.interpolated.ensures.does l C v)

pub expression-returns-in-Array-clause-does : goal.expression-returns-in-Array-clause-does
expression-returns-in-Array-clause-does t c =
    λ l C v. arm-array _ _ c.if-levels-eq0.false _ c.rule.ensures c.in-Array.is
    (c.array.ensures.does l C v)

pub expression-returns-in-Variable-clause-does : goal.expression-returns-in-Variable-clause-does
expression-returns-in-Variable-clause-does t c =
    λ l C v. arm-variable _ _ c.if-levels-eq0.false _ c.rule.ensures v c.in-Variable.is
    (c.variable.ensures.does l)

pub expression-returns-in-This-clause-does : goal.expression-returns-in-This-clause-does
expression-returns-in-This-clause-does t c =
    λ l C v. arm-this _ _ c.if-levels-eq0.false _ c.rule.ensures _ c.in-This.is
    c.position.ensures (c.emit-in-This.ensures.does l _ tt)

pub expression-returns-in-FnCall-clause-does : goal.expression-returns-in-FnCall-clause-does
expression-returns-in-FnCall-clause-does t c =
    λ l C v. arm-call _ _ c.if-levels-eq0.false _ c.rule.ensures c.in-FnCall.is
    (c.call.ensures.does l C v)

pub expression-returns-in-Chain-clause-does : goal.expression-returns-in-Chain-clause-does
expression-returns-in-Chain-clause-does t c =
    λ l C v. arm-chain _ _ c.if-levels-eq0.false _ c.rule.ensures C v c.in-Chain.is
    (c.chain.ensures.does l C)

pub expression-returns-in-And-clause-does : goal.expression-returns-in-And-clause-does
expression-returns-in-And-clause-does t c =
    λ l C v.
    arm-and _ _ c.if-levels-eq0.false _ c.rule.ensures _ (λ a h f. end-held _ _ c.end_of-end.ensures h f)
    c.in-And.is (c.short_circuit.ensures.does l C v)

pub expression-returns-in-Or-clause-does : goal.expression-returns-in-Or-clause-does
expression-returns-in-Or-clause-does t c =
    λ l C v.
    arm-or _ _ c.if-levels-eq0.false _ c.rule.ensures _ (λ a h f. end-held _ _ c.end_of-end-in-Or.ensures h f)
    c.in-Or.is (c.short_circuit-in-Or.ensures.does l C v)

pub expression-returns-in-Coalesce-clause-does : goal.expression-returns-in-Coalesce-clause-does
expression-returns-in-Coalesce-clause-does t c =
    λ l C v.
    arm-coalesce _ _ c.if-levels-eq0.false _ c.rule.ensures _ (λ a h f. end-held _ _ c.end_of-end-in-Coalesce.ensures h f) C v
    c.in-Coalesce.is (c.coalesce.ensures.does l C v)

pub expression-returns-in-Residual-clause-does : goal.expression-returns-in-Residual-clause-does
expression-returns-in-Residual-clause-does t c =
    λ l C v. arm-residual _ _ c.if-levels-eq0.false _ c.rule.ensures c.in-Residual.is
    (c.residual-in-Residual.ensures.does l _)

pub interpolated-returns-clause-does : goal.interpolated-returns-clause-does
interpolated-returns-clause-does t c =
    λ l C v. interpolated-does _ _ _ C v c.of.ensures (c.emit.ensures.does l _ tt)
    (c.siblings.ensures.does l) (c.emit-2.ensures.does l _ tt)

pub short_circuit-returns-clause-does : goal.short_circuit-returns-clause-does
short_circuit-returns-clause-does t c =
    λ l C v. short-does _ _ _ _ _ _ C v c.saturating_sub.ensures c.of.ensures
    (c.siblings.ensures.does l) (c.decision.ensures.does l _)

pub siblings-loop-i-init : goal.siblings-loop-i-init
siblings-loop-i-init t c =
    let gives = c.into_iter-i-iterator.ensures.into_iter_gives in
    let made = c.enumerate-i-items.ensures in
    let nodes = c.new.ensures in
    let zero = ap (λ e. e.count) gives ∙ made.count in (
      walked-start _ _ _ _ (ap (λ e. e.iter) gives ∙ made.source) nodes.sheet nodes.left nodes.at zero,
      λ l C R. rows_start _ _ 0 _ _ zero _ _,
      refl,
    )

pub siblings-loop-i-preserved : goal.siblings-loop-i-preserved
siblings-loop-i-preserved t c =
    let steps = c.in-Some.ensures.steps in
    let goes = walked-on _ _ _ _ _ c.loop-i.invariant.0 steps.0 in
    rw steps.2 (
      goes.walked,
      λ l C R. rows_more _ _ _ _ _ _ _ _ goes.less (omega (arith, steps.1, goes.less)) goes.node c.position.ensures R
          (c.loop-i.invariant.1 l C R) (λ u. c.expression.ensures.does l C u)
          (c.after_one.ensures.does l _),
      c.after_one.ensures.same_reference ∙ c.expression.ensures.same_reference ∙ c.loop-i.invariant.2,
    )

pub siblings-returns-clause-does : goal.siblings-returns-clause-does
siblings-returns-clause-does t c =
    let is = walked-end _ _ _ _ _ c.loop-i.invariant.0 c.in-None.ensures.steps.0.0 in
    λ l C R. rows-done _ _ _ _ _ is (c.loop-i.invariant.1 l C R)

pub walk-loop-p-init : goal.walk-loop-p-init
walk-loop-p-init t c =
    let begun = links-begin (ap links_left c.into_iter-p-iterator.ensures.into_iter_gives ∙ c.links_of-p-items.ensures) in
    (begun.left, λ l C L. walk-starts _ _ _ _ C L begun.nodes, refl)

pub walk-loop-p-preserved : goal.walk-loop-p-preserved
walk-loop-p-preserved t c =
    let turn = links-turn c.next.new.self c.loop-p.invariant.0 c.in-Some.ensures.steps in (
      turn.left,
      λ l C L. walk-on _ _ _ _ turn.nodes C (c.loop-p.invariant.1 l C L)
          (sym (c.link_with.ensures _ turn.says) ∙ c.in-Lowers.is) (c.siblings.ensures.does l) (c.step_names.ensures.does l turn.says),
      c.step_names.ensures.same_reference ∙ c.siblings.ensures.same_reference ∙ c.loop-p.invariant.2,
    )

pub walk-returns-in-Fails-clause-does : goal.walk-returns-in-Fails-clause-does
walk-returns-in-Fails-clause-does t c =
    let turn = links-turn c.next.new.self c.loop-p.invariant.0 c.in-Some.ensures.steps in
    λ l C L. walk-fails _ _ _ turn.nodes (c.loop-p.invariant.1 l C L)
    (link-ends _ _ (c.link_with.ensures _ turn.says) c.in-Fails.is)

pub walk-returns-clause-does : goal.walk-returns-clause-does
walk-returns-clause-does t c =
    λ l C L. walk-done _ _ (links-over c.loop-p.p-iterator c.in-None.ensures.steps.0) (c.loop-p.invariant.1 l C L)
