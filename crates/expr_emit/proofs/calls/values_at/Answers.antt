-- Call without a token.
use Rattle.std.proofs.Common.{ℕ, ◌<◌, sym, subst}
use Rattle.expr_emit.proofs.CallDoes.{values-at-does}
use Rattle.expr_emit.proofs.calls.values_at.Goals as goal

pub returns-clause-does : goal.returns-clause-does
returns-clause-does c =
    λ l n b.
    let few = subst (λ (m : ℕ). m < 256) (sym c.count.ensures) n in
    let low = subst (λ (m : ℕ). m < 2) (sym c.field_b.ensures) b in
    values-at-does _ _ _ _ _ c.count.ensures c.field_b.ensures c.position.ensures (c.emit.ensures.does l _ (few, low))
