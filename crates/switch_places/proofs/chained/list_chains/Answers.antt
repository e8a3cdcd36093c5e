-- `switch_places::chained::list_chains` meets its contract. The invariant is `LaidTo`: the chains of the heads passed have their places.
use mathlib.Core.Path.{◌∙◌}
use native.Mathlib.Omega.{arith}
use Rattle.switch_places.proofs.LaidLaws.{laying-start, head-on, heads-end}
use Rattle.switch_places.proofs.chained.list_chains.Goals as goal

pub loop-q-init : goal.loop-q-init
loop-q-init g c = λ s t ls lo hi T l m H S. laying-start _ l m

pub loop-q-preserved : goal.loop-q-preserved
loop-q-preserved g c =
    λ s t ls lo hi T l m H S.
    let now = c.loop-q.invariant s t ls lo hi T l m H S in
    head-on H T now c.loop-q-test.true c.min-n.ensures c.at.ensures c.at-in-loop-q.ensures
    (c.list-list.ensures.list (S.known_still _ now.within) (omega arith) ∙ S.same _ _ now.within) c.laid-sum.ensures

pub returns : goal.returns
returns g c =
    λ s t ls lo hi T l m H S.
    heads-end H (c.loop-q.invariant s t ls lo hi T l m H S) c.loop-q-test.false c.min-n.ensures c.at.ensures
