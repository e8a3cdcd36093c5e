-- `check_shape::within_bounds` meets its contract: the tests are the definition's.
use Rattle.check_shape.proofs.ReadLaws.{bounds-read}
use Rattle.check_shape.proofs.within_bounds.Goals as goal

pub returns : goal.returns
returns c =
    let v = c.args.v in
    let may = c.bounds_of.ensures in
    bounds-read v.kind v.count v.a v.b v.c may.least may.most may.a may.b may.c c.hold.ensures
