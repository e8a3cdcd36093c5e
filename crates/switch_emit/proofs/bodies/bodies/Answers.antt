-- `switch_emit::bodies::bodies` meets its contract. The invariant: what is left of the bodies.
use Rattle.switch_emit.proofs.BodyDoes.{bodies-begin, bodies-on, bodies-end}
use Rattle.switch_emit.proofs.TableLaws.{capped-all, capped-below, last-at}
use Rattle.std.proofs.Common.{refl, ap, ◌∙◌, arith}
use Rattle.switch_emit.specs.Parts.{goes}
use Rattle.switch_emit.proofs.bodies.bodies.Goals as goal
use Rattle.switch_emit.proofs.bodies.bodies.Goals.{then-falls, else-falls}

pub loop-k-init : goal.loop-k-init
loop-k-init c = (λ l C T. bodies-begin _ _ _, refl)

pub loop-k-preserved : goal.loop-k-preserved
loop-k-preserved c = (
  λ l C T.
      bodies-on (c.loop-k.invariant.0 l C T) _
      (elim c.if-falls.branch [
        | then-falls w ↦ rw (w.if-falls.true, w.dropped-is) (λ on. last-at _ _ _ _ w.last_wanted-dropped.ensures (omega arith) on)
        | else-falls w ↦ rw (w.if-falls.false, w.dropped-is) (λ on. refl)
      ])
      (omega arith)
      (c.body.ensures.does l _ (c.kept.ensures ∙ ap (goes _) c.get-end.ensures) C T.guards
      (capped-below _ _ _ _ c.min-n.ensures c.field_a.ensures
      (omega arith))),
  c.body.ensures.same_reference ∙ c.loop-k.invariant.1,
)

pub returns-clause-does : goal.returns-clause-does
returns-clause-does c =
    λ l C T.
    bodies-end (c.loop-k.invariant.0 l C T) _ (omega arith)
    (capped-all _ _ _ _ c.min-n.ensures c.field_a.ensures T.few_blocks)
