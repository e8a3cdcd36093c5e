-- `check_switches::value_key` meets its contract: one law for each way.
use Rattle.check_switches.proofs.KeyLaws.{text-key, bits_key}
use Rattle.check_switches.proofs.value_key.Goals as goal

pub returns-then-kind-eq-STRING : goal.returns-then-kind-eq-STRING
returns-then-kind-eq-STRING c =
    let a = c.args in
    text-key a.sheet.now a.v c.field_a-a.ensures c.kind.ensures c.if-kind-eq-STRING.true c.text.ensures
    c.text_key.ensures

pub returns : goal.returns
returns c =
    let a = c.args in
    bits_key a.sheet.now a.v c.field_a-a.ensures c.kind.ensures c.if-kind-eq-STRING.false c.field_b.ensures
