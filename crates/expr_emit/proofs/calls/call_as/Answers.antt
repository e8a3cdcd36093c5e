-- The call's name, then Call of its place.
use Rattle.std.proofs.Common.{ℕ, ◌<◌, sym, subst, lit<}
use Rattle.expr_emit.proofs.CallDoes.{call-as-does}
use Rattle.expr_emit.proofs.calls.call_as.Goals as goal

pub returns-clause-does : goal.returns-clause-does
returns-clause-does c =
    λ l.
    λ p n b v.
    let named = c.add_name-name.ensures.does l in
    let few = subst (λ (m : ℕ). m < 256) (sym c.count.ensures) n in
    call-as-does _ _ _ _ _ p c.count.ensures c.position.ensures (λ a h. named.1 a (lit< tt) v h)
    (named.0 (lit< tt) v)
    (c.emit.ensures.does l _ (few, b))
