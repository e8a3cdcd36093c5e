-- A name: its entry, then LoadNamed of the place.
use Rattle.std.proofs.Common.{lit<}
use Rattle.expr_emit.proofs.LeafDoes.{load-named-does}
use Rattle.expr_emit.proofs.leaves.load_named.Goals as goal

pub returns-clause-does : goal.returns-clause-does
returns-clause-does c =
    λ l.
    let named = c.add_name-at.ensures.does l in
    λ p v. load-named-does _ _ p c.position.ensures (λ a h. named.1 a (lit< tt) v h) (named.0 (lit< tt) v)
    (c.emit.ensures.does l _ tt)
