-- Three names, one behind the other; the setter's key is the link's.
use Rattle.std.proofs.Common.{arith}
use Rattle.expr_emit.proofs.StepDoes.{property-does}
use Rattle.expr_emit.proofs.steps.property.Goals as goal

pub returns-clause-does : goal.returns-clause-does
returns-clause-does c =
    λ l.
    λ k at d v u.
    property-does _ _ k at d v u
    ((c.add_name-name.ensures.does l).0 (omega arith))
    ((c.add_name-getter.ensures.does l).0 (omega arith))
    ((c.add_name-setter.ensures.does l).0 (omega arith))
