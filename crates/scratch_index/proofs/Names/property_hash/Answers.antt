-- `scratch_index::Names::property_hash` meets its contract.
use Rattle.scratch_index.proofs.ChainWalkLaws.{property-read}
use Rattle.scratch_index.proofs.Names.property_hash.Goals as goal

pub returns : goal.returns
returns c =
    let a = c.args in
    let it = a.self.now in
    property-read it.sheet.now it.layout it.count it.scratch.now a.h a.v c.field_a.ensures
    c.position.ensures
    c.field_b.ensures c.field_c.ensures c.place-a.ensures c.place-b.ensures
    c.place-c.ensures c.more.ensures c.more-2.ensures
    c.more-3.ensures c.more-4.ensures c.more-5.ensures
