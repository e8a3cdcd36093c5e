-- The name, by its key.
use Rattle.expr_emit.proofs.NameDoes.{name-does, name-place}
use Rattle.expr_emit.proofs.names.add_name.Goals as goal

pub returns-clause-does : goal.returns-clause-does
returns-clause-does c =
    λ l. (
      name-does _ _ _ c.key_of.ensures (c.add_name.ensures.does l),
      name-place _ _ _ c.key_of.ensures (c.add_name.ensures.does l),
    )
