-- `switch_places::guards::put_guard` meets its contract. The guard is constant, or it is counted.
use mathlib.Core.Path.{sym, ◌∙◌}
use Rattle.switch_places.proofs.GuardLaws.{with-guard, known-tried}
use Rattle.switch_places.proofs.guards.put_guard.Goals as goal

pub returns-then-kind-eq-BOOL : goal.returns-then-kind-eq-BOOL
returns-then-kind-eq-BOOL c =
    with-guard _ _ _ _ _ _ _ _ c.put.ensures c.put_known.ensures
    (c.constant.ensures _ (sym c.kind.ensures ∙ c.if-kind-eq-BOOL.true))

pub returns : goal.returns
returns c =
    with-guard _ _ _ _ _ _ _ _ c.put.ensures c.put_known-2.ensures
    (known-tried _ _ _ _ _ _ _ _ (λ e. c.if-kind-eq-BOOL.false (c.kind.ensures ∙ e)) c.plus-t.ensures
    c.tally.ensures c.instructions.ensures c.word.ensures c.word-2.ensures)
