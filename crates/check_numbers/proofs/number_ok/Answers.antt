-- `check_numbers::number_ok` meets its contract: the numbers are read from the node.
use Rattle.check_numbers.proofs.ReadLaws.{among-read}
use Rattle.check_numbers.proofs.number_ok.Goals as goal

pub returns : goal.returns
returns c =
    let a = c.args in
    let v = c.read.ensures in
    among-read a.sheet.now a.x a.blocks a.n v.kind v.a v.b v.c v.namespace c.exist.ensures
