-- `check_shape::self_ok` meets its contract: the tests are the definition's.
use Rattle.check_shape.proofs.ReadLaws.{own_read}
use Rattle.check_shape.proofs.self_ok.Goals as goal

pub returns : goal.returns
returns c =
    let a = c.args in
    let v = a.v in
    own_read a.n v.kind v.span v.count v.a v.b v.c v.namespace v.namespace_pos a.total c.within_bounds.ensures c.own_rule.ensures
    c.space_rule.ensures c.fits.ensures
