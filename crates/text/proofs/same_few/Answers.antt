-- `text::same_few` meets its contract: the first four bytes and the last four are all of them. Assumes nothing.
use native.Mathlib.Omega.{arith}
use Rattle.text.proofs.EightLaws.{bytes_of, ends-four}
use Rattle.text.proofs.same_few.Goals as goal

pub returns : goal.returns
returns c =
    let s = c.args.a.now in
    let t = c.args.b.now in
    ends-four s t (bytes_of s c.shared_slice_known-1.given) (bytes_of t c.shared_slice_known-2-1.given) c.requires.2
    _ (omega arith) (omega arith)
    c.four.ensures
    c.four-2.ensures
    c.four-3.ensures
    c.four-4.ensures
