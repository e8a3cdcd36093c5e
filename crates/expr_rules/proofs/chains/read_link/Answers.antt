-- `expr_rules::chains::read_link` meets its contract: one law for each way.
use Rattle.expr_rules.proofs.ReadLaws.{read_goes, read-stops}
use Rattle.expr_rules.proofs.chains.read_link.Goals as goal

pub returns-then-leads_on : goal.returns-then-leads_on
returns-then-leads_on c =
    let a = c.args in
    read_goes a.sheet.now a.c c.kind-k.ensures c.field_a-flags.ensures c.rest_of-rest.ensures c.kind-m.ensures
    c.leads_on.ensures c.if-leads_on.true c.child-with.ensures c.kind.ensures
    c.rule_onto-rule.ensures

pub returns : goal.returns
returns c =
    let a = c.args in
    read-stops a.sheet.now a.c c.kind-k.ensures c.field_a-flags.ensures c.rest_of-rest.ensures c.kind-m.ensures
    c.leads_on.ensures c.if-leads_on.false c.rule_onto-rule-2.ensures
