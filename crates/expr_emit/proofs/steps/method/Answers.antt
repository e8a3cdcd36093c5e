-- One name.
use Rattle.std.proofs.Common.{arith}
use Rattle.expr_emit.proofs.StepDoes.{method-does}
use Rattle.expr_emit.proofs.steps.method.Goals as goal

pub returns-clause-does : goal.returns-clause-does
returns-clause-does c =
    λ l.
    λ k v. method-does _ k v ((c.add_name-name.ensures.does l).0 (omega arith))
