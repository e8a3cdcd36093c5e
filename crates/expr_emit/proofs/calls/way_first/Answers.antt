-- One law for each role of the receiver.
use Rattle.std.proofs.Common.{arith}
use Rattle.expr_emit.proofs.WaySays.{first-variable, first-this, first-value}
use Rattle.expr_emit.proofs.calls.way_first.Goals as goal

pub returns-in-9 : goal.returns-in-9
returns-in-9 c = λ h.
    first-variable _ _ c.receiver_role.ensures c.in-9.is c.child.ensures (c.local_of.ensures (rw c.words.ensures h))
    c.way_variable.ensures

pub returns-in-10 : goal.returns-in-10
returns-in-10 c = λ _. first-this _ _ c.receiver_role.ensures c.in-10.is

pub returns-in_default : goal.returns-in_default
returns-in_default c = λ _. first-value _ _ c.receiver_role.ensures (λ e. omega arith) (λ e. omega arith)
