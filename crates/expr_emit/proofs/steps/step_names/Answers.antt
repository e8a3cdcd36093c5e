-- One law for each rule.
use Rattle.expr_emit.proofs.StepDoes.{names-index, names-property, names-method, names-nothing}
use Rattle.expr_emit.proofs.steps.step_names.Goals as goal

pub returns-in-Index-clause-does : goal.returns-in-Index-clause-does
returns-in-Index-clause-does c = λ l p v u. names-index _ _ p.rule_is c.in-Index.is

pub returns-in-Property-clause-does : goal.returns-in-Property-clause-does
returns-in-Property-clause-does c =
    λ l p v u.
    names-property _ _ _ p.rule_is c.in-Property.is p.with_is v u (c.property.ensures.does l)

pub returns-in-Method-clause-does : goal.returns-in-Method-clause-does
returns-in-Method-clause-does c =
    λ l p v u.
    names-method _ _ _ p.rule_is c.in-Method.is p.with_is v (c.method.ensures.does l)

pub returns-in-Nothing-clause-does : goal.returns-in-Nothing-clause-does
returns-in-Nothing-clause-does c = λ l p v u. names-nothing _ _ p.rule_is c.in-Nothing.is
