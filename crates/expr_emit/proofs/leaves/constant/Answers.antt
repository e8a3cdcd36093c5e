-- A constant: its entry, then Const of the place.
use Rattle.expr_emit.proofs.LeafDoes.{constant-does}
use Rattle.expr_emit.proofs.leaves.constant.Goals as goal

pub returns-clause-does : goal.returns-clause-does
returns-clause-does c =
    λ l.
    λ v. constant-does _ (c.add_const-at.ensures.does l).place ((c.add_const-at.ensures.does l).does v)
    (c.emit.ensures.does l _ tt)
