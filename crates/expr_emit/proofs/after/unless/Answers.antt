-- SkipIfNotUnit, then Pop.
use Rattle.expr_emit.proofs.AfterLaws.{unless-does}
use Rattle.expr_emit.proofs.after.unless.Goals as goal

pub returns-clause-does : goal.returns-clause-does
returns-clause-does c =
    λ l.
    λ s i. unless-does _ i _ (c.emit.ensures.does l s tt) (c.emit-2.ensures.does l s tt)
