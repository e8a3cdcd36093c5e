-- `switch_emit::arms::try_one` meets its contract.
use Rattle.switch_emit.proofs.PartLaws.{try-does}
use Rattle.switch_emit.proofs.arms.try_one.Goals as goal

pub returns-clause-does : goal.returns-clause-does
returns-clause-does c =
    λ l C v. try-does _ _ _ _ c.position.ensures (c.expression.ensures.does l C v)
    (c.emit.ensures.does l _ tt)
