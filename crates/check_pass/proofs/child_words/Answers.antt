-- `check_pass::child_words` meets its contract.
use Rattle.check_pass.proofs.WordLaws.{words-child}
use Rattle.check_pass.proofs.child_words.Goals as goal

pub returns : goal.returns
returns c h =
    let a = c.args in
    words-child a.p.kind a.a a.b a.p.end a.p.passed a.n a.v.kind a.v.span c.fits.ensures c.child_ok.ensures h
