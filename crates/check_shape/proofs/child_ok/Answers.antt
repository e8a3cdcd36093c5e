-- `check_shape::child_ok` meets its contract: the tests are the definition's.
use Rattle.check_shape.proofs.ReadLaws.{fits_read}
use Rattle.check_shape.proofs.child_ok.Goals as goal

pub returns : goal.returns
returns c =
    let a = c.args in
    let p = a.p in
    fits_read a.sheet.now p.kind p.a p.b a.e a.i a.j c.span.ensures c.kind.ensures c.fits.ensures
    c.child_kind.ensures
