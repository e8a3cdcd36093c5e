-- The call's name, then CallRef of its place.
use Rattle.std.proofs.Common.{lit<}
use Rattle.expr_emit.proofs.CallDoes.{call-ref-does}
use Rattle.expr_emit.proofs.calls.call_ref.Goals as goal

pub returns-clause-does : goal.returns-clause-does
returns-clause-does c =
    λ l.
    λ p n v.
    let named = c.add_name-name.ensures.does l in
    call-ref-does _ _ p (λ a h. named.1 a (lit< tt) v h) (named.0 (lit< tt) v) (c.ref_at.ensures.does l n)
