-- `switch_places::bodies::bodies` meets its contract. The invariant is `Placing`: the bodies of the blocks passed have their places.
use native.Mathlib.Omega.{arith}
use Rattle.switch_places.proofs.BodyLaws.{placing-start, placing-on, placing-end}
use Rattle.switch_places.proofs.bodies.bodies.Goals as goal

pub loop-k-init : goal.loop-k-init
loop-k-init c = λ ls def l m g want. placing-start _ l m

pub body-sum-requires : goal.body-sum-requires
body-sum-requires c = omega (arith, c.loop-k-test.true, c.requires)

pub loop-k-preserved : goal.loop-k-preserved
loop-k-preserved c =
    λ ls def l m g want.
    placing-on (c.loop-k.invariant ls def l m g want) c.loop-k.table.whole c.loop-k-test.true c.requires g want
    (c.body-sum.ensures.place, c.body-sum.ensures.sum)

pub returns : goal.returns
returns c = λ ls def l m g want. placing-end (c.loop-k.invariant ls def l m g want) c.loop-k-test.false
