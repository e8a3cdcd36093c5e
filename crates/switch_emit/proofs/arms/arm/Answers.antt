-- `switch_emit::arms::arm` meets its contract. The invariant: what is left of the chain.
use Rattle.switch_tables.specs.Kinds.{said_guard}
use Rattle.switch_emit.proofs.ArmDoes.{arm-begins, arm-pass, arm-on, arm-stop, arm_end}
use Rattle.std.proofs.Common.{false, refl, ap, ◌∙◌, arith}
use Rattle.switch_emit.proofs.arms.arm.Goals as goal
use Rattle.switch_emit.proofs.arms.arm.Goals.{in-Never, in-Tried}

pub loop-b-init : goal.loop-b-init
loop-b-init c = (λ l drop place e C G N. arm-begins _ _ _ _, refl)

pub loop-b-preserved : goal.loop-b-preserved
loop-b-preserved c =
    let v = c.loop-b.invariant in
    let said = c.from.ensures ∙ ap said_guard c.get.ensures in (
      λ l drop place e C G N.
          elim c.match-from.branch [
            | in-Never w ↦
                rw (w.store-is, w.any-is) (arm-pass (v.0 l drop place e C G N) _ _ C G N (omega arith) refl said w.in-Never.is)
            | in-Tried w ↦
                rw (w.store-is, w.any-is)
                (arm-on (v.0 l drop place e C G N) _ _ C G N (omega arith) refl said _ c.get-to.ensures _ _ w.in-Tried.is
                w.get-in-Tried.ensures (w.try_one.ensures.does l))
          ],
      elim c.match-from.branch [
        | in-Never w ↦ rw w.store-is v.1
        | in-Tried w ↦ rw w.store-is (w.try_one.ensures.same_reference ∙ v.1)
      ],
    )

pub returns-in-Always-clause-does : goal.returns-in-Always-clause-does
returns-in-Always-clause-does c =
    λ l drop place e C G N.
    arm-stop (c.loop-b.invariant.0 l drop place e C G N) _ _ C G N (omega arith) refl
    (c.from.ensures ∙ ap said_guard c.get.ensures) _
    c.get-to.ensures c.in-Always.is (c.end_arm.ensures.does l _ false _ refl)

pub returns-clause-does : goal.returns-clause-does
returns-clause-does c =
    λ l drop place e C G N. arm_end (c.loop-b.invariant.0 l drop place e C G N) (omega arith)
    (c.end_arm-2.ensures.does l _ drop place e)
