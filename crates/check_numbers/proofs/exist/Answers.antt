-- `check_numbers::exist` meets its contract: the tests are the definition's.
use Rattle.check_numbers.proofs.ReadLaws.{exist-read}
use Rattle.check_numbers.proofs.exist.Goals as goal

pub returns : goal.returns
returns c =
    let a = c.args in
    let v = a.v in
    exist-read a.x a.blocks v.kind v.a v.b v.c v.namespace c.names_text-named.ensures
