-- `check_switches::keys_apart` meets its contract. Invariant: the numbers of the cases passed are kept, and differ.
use native.Mathlib.Omega.{arith}
use lib.Seq.{length-take-le}
use borrow.Author.Rules.{rules}
use mathlib.Core.Path.{refl, ap, sym, ◌∙◌, subst}
use mathlib.Core.Bool.{false≢true}
use Rattle.sheet.proofs.WalkedLaws.{walked-start, walked-on, walked-end}
use Rattle.check_switches.proofs.KeyLaws.{Other, keys-start, keys_step, keys-end}
use Rattle.check_switches.proofs.keys_apart.Goals as goal

pub returns-then-m-lt6 : goal.returns-then-m-lt6
returns-then-m-lt6 c = λ e. absurd (false≢true e)

pub returns-then-m-gt64 : goal.returns-then-m-gt64
returns-then-m-gt64 c = λ e. absurd (false≢true e)

pub returns-then-among : goal.returns-then-among
returns-then-among c = λ e. absurd (false≢true e)

pub loop-n-init : goal.loop-n-init
loop-n-init c =
    let gives = c.into_iter-n-iterator.ensures.into_iter_gives in
    let made = c.enumerate-n-items.ensures in
    let cases = c.new-cases.ensures in
    let zero = ap (λ e. e.count) gives ∙ made.count in (
      c.if-m-gt64.false,
      refl,
      keys-start _ _ _ _ zero,
      walked-start _ _ _ _ (ap (λ e. e.iter) gives ∙ made.source) cases.sheet cases.left cases.at zero,
    )

pub slice_bounds-k-end : goal.slice_bounds-k-end
slice_bounds-k-end c =
    let w = c.loop-n.invariant in
    let steps = c.in-Some.ensures.steps in
    let goes = walked-on _ _ _ _ _ w.3 steps.0 in
    omega (arith, steps.1, goes.less, w.0, w.1)

pub slice_bounds-among-end : goal.slice_bounds-among-end
slice_bounds-among-end c =
    let w = c.loop-n.invariant in
    let steps = c.in-Some.ensures.steps in
    let goes = walked-on _ _ _ _ _ w.3 steps.0 in
    sym (length-take-le _ _ (omega (arith, steps.1, goes.less, w.0, w.1)))

pub bounds-k-n : goal.bounds-k-n
bounds-k-n c =
    let w = c.loop-n.invariant in
    let steps = c.in-Some.ensures.steps in
    let goes = walked-on _ _ _ _ _ w.3 steps.0 in
    omega (arith, steps.1, goes.less, w.0, w.1)

pub loop-n-preserved : goal.loop-n-preserved
loop-n-preserved c =
    let w = c.loop-n.invariant in
    let a = c.args in
    let steps = c.in-Some.ensures.steps in
    let goes = walked-on _ _ _ _ _ w.3 steps.0 in
    rw (steps.1, steps.2) (
      w.0,
      search rules,
      keys_step a.sheet.now a.at w.2 (omega (arith, goes.less, w.0, w.1)) goes.node c.child.ensures c.value_key-key.ensures
          (subst (λ i. Other i c.loop-n.k c.value_key-key.result) steps.1 (c.among.ensures c.if-among.false)),
      goes.walked,
    )

pub returns : goal.returns
returns c =
    let w = c.loop-n.invariant in
    λ e. keys-end c.args.sheet.now c.args.at c.args.m w.2 (walked-end _ _ _ _ _ w.3 c.in-None.ensures.steps.0.0)
