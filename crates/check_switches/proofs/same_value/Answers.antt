-- `check_switches::same_value` meets its contract: one law for each way.
use Rattle.check_switches.proofs.ReadLaws.{values-apart, values-text, values-bits}
use Rattle.check_switches.proofs.same_value.Goals as goal

pub returns-then-k-eq-STRING : goal.returns-then-k-eq-STRING
returns-then-k-eq-STRING c =
    let a = c.args in
    let k = c.kind-k.ensures in
    let l = c.kind.ensures in
    let fv = c.field_a-a.ensures in
    let fw = c.field_a-b.ensures in
    values-text a.sheet.now a.v a.w k l c.if-k-kind.true fv fw c.if-k-eq-STRING.true c.text.ensures
    c.text-then-k-eq-STRING.ensures c.same_bytes.ensures

pub returns-then-k-kind : goal.returns-then-k-kind
returns-then-k-kind c =
    let a = c.args in
    let k = c.kind-k.ensures in
    let l = c.kind.ensures in
    let fv = c.field_a-a.ensures in
    let fw = c.field_a-b.ensures in
    values-bits a.sheet.now a.v a.w k l c.if-k-kind.true fv fw c.if-k-eq-STRING.false c.field_b.ensures
    c.field_b-then-k-kind.ensures

pub returns : goal.returns
returns c =
    let a = c.args in
    values-apart a.sheet.now a.v a.w c.kind-k.ensures c.kind.ensures c.if-k-kind.false
