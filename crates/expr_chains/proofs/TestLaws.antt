-- Laws of the tests of two steps, in the shapes of the code.
use Prim.Native.Nat.{ℕ}
use mathlib.Core.Path.{◌≡◌, refl}
use mathlib.Core.Bool.{true, false, ◌&&◌}
use mathlib.Core.List.{List}
use lib.Dec.{eqb}
use Rattle.text.proofs.SameLaws.{same_refl}
use Rattle.sheet.specs.Text.{text}
use Rattle.lowering.specs.Flatten.{negated, step_rule}
use denote.Enum.Bare.{sameb}
use Rattle.expr_rules.specs.contracts.chains.StepRule.{the_type}
use Rattle.expr_rules.specs.declared.chains.StepRule as StepRules
use Rattle.expr_rules.specs.Inverse.{step_rule_from}
use Rattle.expr_chains.specs.Same.{same_text, same_as, rule_number, same_by, same_step}

-- rules are compared as their numbers are
pub rules-same : (a b : StepRules.StepRule) → sameb the_type a b ≡ eqb (rule_number (step_rule_from a)) (rule_number (step_rule_from b))
unfolding rule_number step_rule_from
rules-same StepRules.TheVariants.Index StepRules.TheVariants.Index = refl
rules-same StepRules.TheVariants.Index StepRules.TheVariants.Property = refl
rules-same StepRules.TheVariants.Index StepRules.TheVariants.Method = refl
rules-same StepRules.TheVariants.Index StepRules.TheVariants.Nothing = refl
rules-same StepRules.TheVariants.Property StepRules.TheVariants.Index = refl
rules-same StepRules.TheVariants.Property StepRules.TheVariants.Property = refl
rules-same StepRules.TheVariants.Property StepRules.TheVariants.Method = refl
rules-same StepRules.TheVariants.Property StepRules.TheVariants.Nothing = refl
rules-same StepRules.TheVariants.Method StepRules.TheVariants.Index = refl
rules-same StepRules.TheVariants.Method StepRules.TheVariants.Property = refl
rules-same StepRules.TheVariants.Method StepRules.TheVariants.Method = refl
rules-same StepRules.TheVariants.Method StepRules.TheVariants.Nothing = refl
rules-same StepRules.TheVariants.Nothing StepRules.TheVariants.Index = refl
rules-same StepRules.TheVariants.Nothing StepRules.TheVariants.Property = refl
rules-same StepRules.TheVariants.Nothing StepRules.TheVariants.Method = refl
rules-same StepRules.TheVariants.Nothing StepRules.TheVariants.Nothing = refl

module _ (s : List ℕ) where
  pub text-one : (a b : ℕ) → a ≡ b → same_text s a b ≡ true
  unfolding same_text
  text-one a b e = rw e (same_refl (text s b))

  pub step-here : (c d : ℕ) → (eqb (rule_number (step_rule s c)) (rule_number (step_rule s d)) && eqb (negated s c) (negated s d)) ≡ true
      → same_step s c d ≡ same_as (step_rule s c) s c d
  unfolding same_step same_by
  step-here c d h = rw (h, same_by)

  pub step-apart : (c d : ℕ) → (eqb (rule_number (step_rule s c)) (rule_number (step_rule s d)) && eqb (negated s c) (negated s d)) ≡ false
      → same_step s c d ≡ false
  unfolding same_step same_by
  step-apart c d h = rw (h, same_by)
