-- Nothing, or Rotate.
use Rattle.std.proofs.Common.{arith}
use Rattle.expr_emit.proofs.CallDoes.{rotate-none, rotate-some}
use Rattle.expr_emit.proofs.calls.rotate.Goals as goal

pub returns-then-others-eq0-clause-does : goal.returns-then-others-eq0-clause-does
returns-then-others-eq0-clause-does c = λ l.
    λ s. rotate-none _ c.if-others-eq0.true

pub returns-clause-does : goal.returns-clause-does
returns-clause-does c =
    λ l.
    λ s. rotate-some _ (omega arith) (c.emit.ensures.does l s tt)
