-- `switch_emit::bodies::close` meets its contract.
use Rattle.switch_emit.proofs.BodyDoes.{close-does}
use Rattle.switch_emit.proofs.bodies.close.Goals as goal

pub returns-clause-does : goal.returns-clause-does
returns-clause-does c =
    λ l.
    λ s. close-does c.args.store.now.state c.at_depth.ensures
    (c.emit.ensures.does l s tt) (c.emit-2.ensures.does l s tt)
