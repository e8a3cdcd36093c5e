-- `scratch_index::Names::method_hash` meets its contract.
use Rattle.scratch_index.proofs.ChainWalkLaws.{method-read}
use Rattle.scratch_index.proofs.Names.method_hash.Goals as goal

pub returns : goal.returns
returns c =
    let a = c.args in
    let it = a.self.now in
    method-read it.sheet.now it.layout it.count it.scratch.now a.h a.v c.field_a.ensures
    c.position.ensures
    c.count.ensures c.place-a.ensures c.more.ensures c.more-2.ensures
    c.more-3.ensures c.more-4.ensures
