-- `write_sections::root_at` meets its contract: a variable by its name and its local, any other root whatever they are.
use mathlib.Core.Path.{◌∙◌}
use Rattle.scratch_index.specs.Held.{names_held}
use Rattle.write_sections.proofs.ChainRows.{placed, root-named, root-plain}
use Rattle.write_sections.proofs.root_at.Goals as goal

pub returns-then-role-eq-VARIABLE : goal.returns-then-role-eq-VARIABLE
returns-then-role-eq-VARIABLE c =
    let a = c.args in
    let it = a.names.now in
    λ h.
    c.root_of.ensures (λ _. c.local_of-local.ensures h.slots)
    ∙ root-named it.sheet.now (names_held it.sheet.now it.layout it.count it.scratch.now) a.v c.field_a.ensures
    (placed c.place-name.ensures h)

pub returns : goal.returns
returns c =
    let a = c.args in
    let it = a.names.now in
    λ _.
    c.root_of-2.ensures (λ e. absurd (c.if-role-eq-VARIABLE.false (c.role.ensures ∙ e)))
    ∙ root-plain it.sheet.now (names_held it.sheet.now it.layout it.count it.scratch.now) a.v 0 (λ e. c.if-role-eq-VARIABLE.false
    (c.role.ensures ∙ e))
