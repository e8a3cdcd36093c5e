-- `switch_emit::bodies::missing` meets its contract.
use Rattle.std.proofs.Common.{rules}
use Rattle.switch_emit.proofs.BodyDoes.{missing-does, missing-not}
use Rattle.switch_emit.proofs.bodies.missing.Goals as goal

pub returns-then-is_none-clause-does : goal.returns-then-is_none-clause-does
returns-then-is_none-clause-does c =
    λ l.
    λ s. missing-does c.args.store.now.state _ (search rules) c.at_depth.ensures
    (c.emit.ensures.does l s tt)

pub returns-else-is_none-clause-does : goal.returns-else-is_none-clause-does
returns-else-is_none-clause-does c = λ l.
    λ s. missing-not _ (search rules)
