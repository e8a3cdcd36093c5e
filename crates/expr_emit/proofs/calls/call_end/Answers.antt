-- With a token, or with the capture mark.
use Rattle.std.proofs.Common.{sym, ◌∙◌}
use Rattle.expr_emit.proofs.CallDoes.{call-end-token, call-end-plain}
use Rattle.expr_emit.proofs.calls.call_end.Goals as goal

pub returns-then-stores_token-clause-does : goal.returns-then-stores_token-clause-does
returns-then-stores_token-clause-does c =
    λ l.
    call-end-token _ (sym c.stores_token.ensures ∙ c.if-stores_token.true) (c.call_token.ensures.does l)

pub returns-else-stores_token-clause-does : goal.returns-else-stores_token-clause-does
returns-else-stores_token-clause-does c =
    λ l.
    call-end-plain _ _ (sym c.stores_token.ensures ∙ c.if-stores_token.false) c.field_b.ensures
    (c.call_as.ensures.does l)
