-- `scratch_index::ConstOf::hash` meets its contract.
use Rattle.scratch_index.proofs.ConstLaws.{read-string, read_number}
use Rattle.scratch_index.proofs.ConstOf.hash.Goals as goal

pub returns-then-k-eq-STRING : goal.returns-then-k-eq-STRING
returns-then-k-eq-STRING c =
    let a = c.args in
    let it = a.self.now in
    read-string it.sheet.now it.node _ a.scratch.now c.kind-k.ensures c.field_a-a.ensures
    c.sums_at.ensures c.hash_text.ensures c.if-k-eq-STRING.true

pub returns : goal.returns
returns c =
    let a = c.args in
    let it = a.self.now in
    read_number it.sheet.now it.node _ a.scratch.now c.kind-k.ensures c.field_a-a.ensures
    c.field_b.ensures c.number_hash.ensures c.if-k-eq-STRING.false
