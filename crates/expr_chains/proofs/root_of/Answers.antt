-- `expr_chains::root_of` meets its contract: one law for each way.
use mathlib.Core.Path.{ap, ap₂, sym, ◌∙◌}
use native.Mathlib.Omega.{arith}
use Rattle.bytecode.specs.declared.Root.TheVariants.{This}
use Rattle.expr_chains.specs.Variable.{variable_by}
use Rattle.expr_chains.proofs.RootLaws.{root-this, root-other}
use Rattle.expr_chains.proofs.VariableLaws.{root-variable}
use Rattle.expr_chains.proofs.root_of.Goals as goal

pub returns-in-9 : goal.returns-in-9
returns-in-9 c =
    let role_is = c.role.ensures in
    let a = c.args in
    let s = a.sheet.now in
    let is = sym role_is ∙ c.in-9.is in
    λ told.
    c.variable_root.ensures
    ∙ ap₂ (λ f p. variable_by f a.name p) (told is) c.position.ensures
    ∙ sym (root-variable s a.v a.name is)

pub returns-in-10 : goal.returns-in-10
returns-in-10 c =
    let a = c.args in
    let s = a.sheet.now in
    λ _.
    ap This c.position-in-10.ensures
    ∙ sym (root-this s a.v a.name (sym c.role.ensures ∙ c.in-10.is))

pub returns-in_default : goal.returns-in_default
returns-in_default c =
    let a = c.args in
    λ _. sym (root-other a.sheet.now a.v a.name (λ e. omega arith) (λ e. omega arith))
