-- `expr_chains::same_step` meets its contract: one law for each way; the rules are those that the links say.
use mathlib.Core.Path.{ap, ap₂, sym, refl, ◌∙◌}
use mathlib.Core.Bool.{◌&&◌}
use lib.Dec.{eqb}
use Rattle.expr_rules.proofs.ReadsLaws.{rule_told}
use Rattle.expr_chains.specs.Same.{rule_number, same_as}
use Rattle.expr_chains.proofs.TestLaws.{rules-same, step-here, step-apart}
use Rattle.expr_chains.proofs.same_step.Goals as goal

pub returns-then-eq-p : goal.returns-then-eq-p
returns-then-eq-p c =
    let a = c.args in
    let s = a.sheet.now in
    λ p q.
    let rules = ap₂ (λ x y. eqb (rule_number x) (rule_number y)) (rule_told p refl) (rule_told q refl) in
    let n = sym (c.eq.ensures ∙ rules-same a.p.rule a.q.rule ∙ rules) in
    let m = ap₂ eqb (sym p.flag_is) (sym q.flag_is) in
    c.same_as.ensures p q
    ∙ ap (λ r. same_as r s a.p.link a.q.link) (rule_told p refl)
    ∙ sym (step-here s a.p.link a.q.link (ap₂ ◌&&◌ n m ∙ c.if-eq-p.true))

pub returns : goal.returns
returns c =
    let a = c.args in
    let s = a.sheet.now in
    λ p q.
    let rules = ap₂ (λ x y. eqb (rule_number x) (rule_number y)) (rule_told p refl) (rule_told q refl) in
    let n = sym (c.eq.ensures ∙ rules-same a.p.rule a.q.rule ∙ rules) in
    let m = ap₂ eqb (sym p.flag_is) (sym q.flag_is) in
    sym (step-apart s a.p.link a.q.link (ap₂ ◌&&◌ n m ∙ c.if-eq-p.false))
