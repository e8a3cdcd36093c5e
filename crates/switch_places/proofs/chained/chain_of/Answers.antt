-- `switch_places::chained::chain_of` meets its contract. The invariant is `Chaining`: what is passed and what is left make the chain.
use mathlib.Core.Path.{◌≡◌, refl, ap, ◌∙◌}
use native.Mathlib.Omega.{arith}
use Rattle.std.specs.Prelude.{None}
use Rattle.expr_count.specs.Tally.{nothing}
use Rattle.switch_tables.specs.Kinds.{said_guard}
use Rattle.switch_places.specs.GuardChain.{sum_in, tries_in}
use Rattle.switch_places.proofs.ChainLaws.{chaining-start, chain-never, chain-always, chain-tried, chain-end, or-nothing}
use Rattle.switch_places.proofs.chained.chain_of.Goals as goal
use Rattle.switch_places.proofs.chained.chain_of.Goals.{in-Never, in-Tried}

pub loop-b-init : goal.loop-b-init
unfolding sum_in tries_in
loop-b-init c = λ s t l R. let none : sum_in None ≡ nothing = refl in chaining-start s t l _ _ none

pub loop-b-preserved : goal.loop-b-preserved
unfolding sum_in tries_in
loop-b-preserved c =
    let said = c.from.ensures ∙ ap said_guard c.at.ensures in
    λ s t l R.
    elim c.match-from.branch [
      | in-Never w ↦
          rw (w.table-is, w.sum-is)
          (chain-never s t l _ _ R _ _ _ _ (c.loop-b.invariant s t l R) _ _ c.loop-b-test.true refl said w.in-Never.is)
      | in-Tried w ↦
          rw (w.table-is, w.sum-is)
          (chain-tried s t l _ _ R _ _ _ _ (c.loop-b.invariant s t l R) _ _ c.loop-b-test.true refl said c.loop-b.table.whole _
          w.put-in-Tried.ensures _ _ _ w.in-Tried.is w.added.ensures
          (rw (or-nothing c.loop-b.sum _ _ w.nothing.ensures w.unwrap_or.ensures) at w.plus.ensures))
    ]

pub returns-in-Always : goal.returns-in-Always
returns-in-Always c =
    λ s t l R. chain-always s t l _ _ R _ _ _ _ (c.loop-b.invariant s t l R) _ _ c.loop-b-test.true refl
    (c.from.ensures ∙ ap said_guard c.at.ensures) c.loop-b.table.whole _ c.put.ensures _ _ c.in-Always.is
    c.ended.ensures.sum_value c.ended.ensures.exit_value

pub returns : goal.returns
returns c =
    λ s t l R. chain-end s t l _ _ R _ _ _ _ (c.loop-b.invariant s t l R) _ _ (omega arith) c.ended-2.ensures.sum_value
    c.ended-2.ensures.exit_value
