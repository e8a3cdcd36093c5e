-- CallRef.
use Rattle.std.proofs.Common.{ℕ, ◌<◌, sym, subst}
use Rattle.expr_emit.proofs.CallDoes.{ref-at-does}
use Rattle.expr_emit.proofs.calls.ref_at.Goals as goal

pub returns-clause-does : goal.returns-clause-does
returns-clause-does c =
    λ l n.
    let few = subst (λ (m : ℕ). m < 256) (sym c.count.ensures) n in
    ref-at-does _ _ _ _ _ c.count.ensures c.position.ensures (c.emit.ensures.does l _ few)
