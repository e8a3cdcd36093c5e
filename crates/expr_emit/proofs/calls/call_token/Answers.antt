-- The token, then the call with its place plus 1.
use Rattle.std.proofs.Common.{arith}
use Rattle.expr_emit.proofs.CallDoes.{call-token-does}
use Rattle.expr_emit.proofs.calls.call_token.Goals as goal

pub returns-clause-does : goal.returns-clause-does
returns-clause-does c =
    λ l.
    λ p n v t. call-token-does _ _ (λ h. omega arith) (c.add_token-at.ensures.does l).place
    ((c.add_token-at.ensures.does l).does t)
    (c.call_as.ensures.does l p n (omega arith) v)
