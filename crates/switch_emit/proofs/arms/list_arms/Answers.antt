-- `switch_emit::arms::list_arms` meets its contract. The invariant: what is left of the chains.
use mathlib.Core.Path.{refl, ◌∙◌}
use native.Mathlib.Omega.{arith}
use Rattle.switch_emit.proofs.ArmDoes.{arms-begin, arms-on, arms_end}
use Rattle.switch_emit.proofs.arms.list_arms.Goals as goal

pub loop-i-init : goal.loop-i-init
loop-i-init g c = (λ l ls falls C G known H D. arms-begin _ _ _ _, refl)

pub loop-i-preserved : goal.loop-i-preserved
loop-i-preserved g c = (
  λ l ls falls C G known H D.
      arms-on (c.loop-i.invariant.0 l ls falls C G known H D) H _ refl _ _ (omega arith) c.get.ensures
      (c.list-list.ensures.list known (omega arith)) D (c.arm.ensures.does l _ _ c.kept.ensures C G),
  c.arm.ensures.same_reference ∙ c.loop-i.invariant.1,
)

pub returns-clause-does : goal.returns-clause-does
returns-clause-does g c =
    λ l ls falls C G known H D. arms_end (c.loop-i.invariant.0 l ls falls C G known H D) H _ refl (omega arith)
