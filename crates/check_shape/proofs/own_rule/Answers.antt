-- `check_shape::own_rule` meets its contract: the tests are the definition's.
use Rattle.check_shape.specs.Shape.{own_rule}
use Prim.Native.Nat.{◌+◌, ◌*◌}
use mathlib.Core.Bool.{◌&&◌, ◌||◌, not}
use mathlib.Core.Path.{ap}
use lib.Dec.{leb, eqb}
use Rattle.check_shape.proofs.own_rule.Goals as goal

pub returns : goal.returns
unfolding own_rule
returns c =
    let v = c.args.v in
    ap (λ r. (not (eqb v.kind 5) || r) && (not (eqb v.kind 19) || leb (1 + 2 * v.a + v.b) v.count)) c.scalar.ensures
