-- A variable's name is pooled, and no other root has one.
use Rattle.std.proofs.Common.{arith}
use Rattle.expr_emit.proofs.StepDoes.{root-named, root-other}
use Rattle.expr_emit.proofs.steps.root_name.Goals as goal

pub returns-then-role-eq-VARIABLE-clause-does : goal.returns-then-role-eq-VARIABLE-clause-does
returns-then-role-eq-VARIABLE-clause-does c =
    λ l.
    λ v. root-named _ _ c.role.ensures c.if-role-eq-VARIABLE.true v ((c.add_name-at.ensures.does l).0 (omega arith))

pub returns-else-role-eq-VARIABLE-clause-does : goal.returns-else-role-eq-VARIABLE-clause-does
returns-else-role-eq-VARIABLE-clause-does c =
    λ l.
    λ v. root-other _ _ c.role.ensures c.if-role-eq-VARIABLE.false
