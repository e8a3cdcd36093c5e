-- `scratch_index::same_const` meets its contract.
use Rattle.scratch_index.proofs.ConstLaws.{told-bytes, told-number, told-other}
use Rattle.scratch_index.proofs.same_const.Goals as goal

pub returns-then-k-eq-STRING : goal.returns-then-k-eq-STRING
returns-then-k-eq-STRING c =
    let a = c.args in
    told-bytes a.sheet.now a.i a.c c.kind-k.ensures c.kind.ensures
    c.if-k-kind.true c.field_a-a.ensures c.field_a-d.ensures
    c.if-k-eq-STRING.true c.same_text.ensures

pub returns-then-k-kind : goal.returns-then-k-kind
returns-then-k-kind c =
    let a = c.args in
    told-number a.sheet.now a.i a.c c.kind-k.ensures c.kind.ensures
    c.if-k-kind.true c.field_a-a.ensures c.field_a-d.ensures
    c.if-k-eq-STRING.false c.field_b.ensures c.field_b-then-k-kind.ensures

pub returns : goal.returns
returns c =
    let a = c.args in
    told-other a.sheet.now a.i a.c c.kind-k.ensures c.kind.ensures c.if-k-kind.false
