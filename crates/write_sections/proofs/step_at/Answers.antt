-- `write_sections::step_at` meets its contract: each arm looks for the names that its step has.
use mathlib.Core.Path.{sym}
use Rattle.scratch_index.specs.Held.{names_held}
use Rattle.sheet.specs.Node.{field_a, field_b, field_c}
use Rattle.expr_rules.specs.Inverse.{step_rule_from}
use Rattle.expr_rules.proofs.ReadsLaws.{rule_told}
use Rattle.write_sections.proofs.ChainRows.{placed}
use Rattle.write_sections.proofs.StepRows.{named_by, step-index, step-none, step-method, step-property}
use Rattle.write_sections.proofs.step_at.Goals as goal

pub returns-in-Index : goal.returns-in-Index
unfolding step_rule_from
returns-in-Index c =
    let a = c.args in
    let it = a.names.now in
    let s = it.sheet.now in
    let ns = names_held s it.layout it.count it.scratch.now in
    λ says _. step-index s ns a.p.link a.k 0 0 0 (sym (rule_told says c.in-Index.is)) (c.step_of.ensures says)

pub returns-in-Property : goal.returns-in-Property
returns-in-Property c =
    let a = c.args in
    let it = a.names.now in
    let s = it.sheet.now in
    let ns = names_held s it.layout it.count it.scratch.now in
    λ says h.
    let name = named_by s ns a.p.link (field_a s) says.with_is c.field_a.ensures (placed c.place.ensures h) in
    let getter = named_by s ns a.p.link (field_b s) says.with_is c.field_b.ensures
    (placed c.place-in-Property.ensures h) in
    let setter = named_by s ns a.p.link (field_c s) says.with_is c.field_c.ensures (placed c.place-in-Property-2.ensures h) in
    step-property s ns a.p.link a.k _ _ _ name getter setter (c.step_of-in-Property.ensures says)

pub returns-in-Method : goal.returns-in-Method
unfolding step_rule_from
returns-in-Method c =
    let a = c.args in
    let it = a.names.now in
    let s = it.sheet.now in
    let ns = names_held s it.layout it.count it.scratch.now in
    λ says h.
    let name = named_by s ns a.p.link (field_a s) says.with_is c.field_a-in-Method.ensures (placed c.place-in-Method.ensures h) in
    step-method s ns a.p.link a.k _ 0 0 (sym (rule_told says c.in-Method.is)) name (c.step_of-in-Method.ensures says)

pub returns-in-Nothing : goal.returns-in-Nothing
unfolding step_rule_from
returns-in-Nothing c =
    let a = c.args in
    let it = a.names.now in
    let s = it.sheet.now in
    let ns = names_held s it.layout it.count it.scratch.now in
    λ says _. step-none s ns a.p.link a.k 0 0 0 (sym (rule_told says c.in-Nothing.is)) (c.step_of-in-Nothing.ensures says)
