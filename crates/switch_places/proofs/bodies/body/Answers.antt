-- `switch_places::bodies::body` meets its contract. One law for each answer.
use Rattle.switch_places.proofs.BodyLaws.{body-yes, body-no}
use Rattle.switch_places.proofs.bodies.body.Goals as goal

pub returns-then-at-eq1 : goal.returns-then-at-eq1
returns-then-at-eq1 c =
    let both = body-yes _ _ c.args.table.now.cells _ _ _ _ _ _ _ _ _ _ _ c.at.ensures c.if-at-eq1.true c.word.ensures c.put.ensures
    c.at-then-at-eq1.ensures c.next-j.ensures c.tally.ensures c.instructions.ensures
    c.plus.ensures c.plus-then-at-eq1.ensures in
    record { place = both.0; sum = both.1 }

pub returns : goal.returns
returns c =
    let both = body-no _ _ c.args.table.now.cells _ _ _ _ c.at.ensures c.if-at-eq1.false c.put-2.ensures in
    record { place = both.0; sum = both.1 }
