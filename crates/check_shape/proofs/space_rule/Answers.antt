-- `check_shape::space_rule` meets its contract: the tests are the definition's.
use mathlib.Core.Bool.{◌&&◌, ◌||◌, not}
use mathlib.Core.Path.{ap}
use lib.Dec.{eqb}
use Rattle.check_shape.specs.Shape.{space_rule}
use Rattle.check_shape.proofs.space_rule.Goals as goal

pub returns : goal.returns
unfolding space_rule
returns c =
    let v = c.args.v in
    ap (λ r. (r || eqb v.namespace 0) && (not (eqb v.namespace 0) || eqb v.namespace_pos 0)) c.may_have.ensures
