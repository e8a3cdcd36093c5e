-- `switch_emit::jumps::end_arm` meets its contract.
use Rattle.switch_emit.proofs.PartLaws.{end-jumps, end_none}
use Rattle.switch_emit.proofs.jumps.end_arm.Goals as goal

pub returns-then-any-clause-does : goal.returns-then-any-clause-does
returns-then-any-clause-does c =
    λ l s drop place e.
    end-jumps _ _ _ c.if-any.true (c.jump.ensures.does l s drop place e)

pub returns-else-any-clause-does : goal.returns-else-any-clause-does
returns-else-any-clause-does c = λ l s drop place e. end_none _ _ _ c.if-any.false
