-- `switch_emit::subject` meets its contract.
use Rattle.switch_emit.proofs.SwitchDoes.{subject-does}
use Rattle.switch_emit.proofs.subject.Goals as goal

pub returns-clause-does : goal.returns-clause-does
returns-clause-does c =
    λ l.
    λ C. subject-does _ c.child.ensures C
    (c.expression.ensures.does l) (c.emit.ensures.does l _ tt)
