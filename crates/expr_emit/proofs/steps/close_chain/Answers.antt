-- The chain's entry, then Chain of its place.
use Rattle.expr_emit.proofs.StepDoes.{close-does}
use Rattle.expr_emit.proofs.steps.close_chain.Goals as goal

pub returns-clause-does : goal.returns-clause-does
returns-clause-does c =
    λ l takes.
    λ v a p h room. close-does _ _ _ _ a c.position.ensures (c.popped.ensures takes)
    ((c.add_chain-at.ensures.does l).place a h p)
    ((c.add_chain-at.ensures.does l).holds v a h p) (c.emit.ensures.does l _ tt) room
