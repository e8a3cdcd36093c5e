-- One law for each kind.
use Rattle.expr_emit.proofs.AfterLaws.{after_nothing, after_check, after-append, after-decide, after-unless}
use Rattle.expr_emit.proofs.after.after_one.Goals as goal

pub returns-in-Nothing-clause-does : goal.returns-in-Nothing-clause-does
returns-in-Nothing-clause-does c = λ l.
    λ s. after_nothing _ _ _ c.in-Nothing.is

pub returns-in-CheckPlace-clause-does : goal.returns-in-CheckPlace-clause-does
returns-in-CheckPlace-clause-does c =
    λ l.
    λ s. after_check _ _ _ c.in-CheckPlace.is (c.emit.ensures.does l s tt)

pub returns-in-Append-clause-does : goal.returns-in-Append-clause-does
returns-in-Append-clause-does c =
    λ l.
    λ s. after-append _ _ _ c.in-Append.is (c.emit-in-Append.ensures.does l s tt)

pub returns-in-Decide-clause-does : goal.returns-in-Decide-clause-does
returns-in-Decide-clause-does c =
    λ l.
    λ s. after-decide _ _ _ _ _ _ c.in-Decide.is c.jump_on.ensures (c.emit-in-Decide.ensures.does l s)

pub returns-in-Unless-clause-does : goal.returns-in-Unless-clause-does
returns-in-Unless-clause-does c =
    λ l.
    λ s. after-unless _ _ _ _ c.in-Unless.is (c.unless.ensures.does l s _)
