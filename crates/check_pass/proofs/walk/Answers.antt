-- `check_pass::walk` meets its contract. The loop's invariant is `State` (proofs/Passing); each need is one law of it.
use mathlib.Core.Path.{◌≡◌, refl, sym, ◌∙◌}
use mathlib.Core.Bool.{and-eq-true_iff}
use native.Mathlib.Omega.{arith}
use Rattle.check_pass.proofs.StateLaws.{state-start, state-closed, state-leaf, state-open, state-all, none-of}
use Rattle.check_pass.proofs.StateLaws.{end_fits, root_some}
use Rattle.check_pass.proofs.PassingLaws.{first_done}
use Rattle.check_pass.proofs.walk.Goals.{then-v-eq0+else-v-ne1, else-v-eq0+else-at-ge62}
use Rattle.check_pass.proofs.walk.Goals as goal

pub loop-n-init : goal.loop-n-init
loop-n-init c = rw c.opened-top.ensures (state-start c.requires.sizes c.requires.root _ refl)

pub overflow_add-n : goal.overflow_add-n
overflow_add-n c =
    end_fits (state-closed c.loop-n.invariant c.in-Some.ensures.0) c.node-v.ensures (c.child_words.ensures c.if-not-child_words.false)
    (c.own_ok.ensures c.if-not-own_ok.false)

pub loop-n-preserved : goal.loop-n-preserved
loop-n-preserved c =
    let state = state-closed c.loop-n.invariant c.in-Some.ensures.0 in
    let v = c.node-v.ensures in
    let fit = c.child_words.ensures c.if-not-child_words.false in
    let own = c.own_ok.ensures c.if-not-own_ok.false in
    elim c.if-v-eq0.branch [
      | then-v-eq0+else-v-ne1 w ↦
          rw (w.around-is, w.at-is) (state-leaf state v fit own c.in-Some.ensures.1 w.if-v-eq0.true w.if-v-ne1.false)
      | else-v-eq0+else-at-ge62 w ↦
          rw (w.around-is, w.at-is, w.opened-at.ensures)
          (state-open state v fit own c.in-Some.ensures.1 (omega (arith, w.if-at-ge62.false)))
    ]

pub returns : goal.returns
returns c h =
    let last : c.loop-n.n ≡ c.args.total = omega (arith, root_some c.requires.sizes c.requires.root) in
    let both = (and-eq-true_iff c.done.result c.is_none.result).0 h in
    let first = none-of _ _ c.innermost.result c.is_none.ensures both.1 c.innermost.ensures in
    let around = first_done c.loop-n.around c.args.total 0 c.loop-n.at.d (omega arith) first in
    let top = sym c.done.ensures ∙ both.0 in
    state-all c.loop-n.invariant last (rw last top) (rw last around)
