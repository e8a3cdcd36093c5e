-- `switch_emit::arms::case_arms` meets its contract.
use mathlib.Core.Path.{refl}
use Rattle.switch_emit.proofs.TableLaws.{capped-all}
use Rattle.switch_emit.proofs.ArmDoes.{case_heads, case-last, arms-as}
use Rattle.switch_emit.proofs.arms.case_arms.Goals as goal
use Rattle.switch_emit.proofs.arms.case_arms.Goals.{then-falls, else-falls}

pub returns-clause-does : goal.returns-clause-does
returns-clause-does c =
    λ l C T P.
    let all = capped-all _ _ _ _ c.min-n.ensures c.get.ensures T.few_heads in
    arms-as _ _ _ c.get-to.ensures (c.list_arms.ensures.does l _ _ C T.guards tt (rw all (case_heads C T)) (elim c.if-falls.branch [
      | then-falls w ↦ rw (w.if-falls.true, w.dropped-is) (case-last _ _ C T P all w.last_case-dropped.ensures)
      | else-falls w ↦ rw (w.if-falls.false, w.dropped-is) (λ i lt tried. refl)
    ]))
