-- The way back from the code's enums to the definition's rules is the inverse of the way there.
use mathlib.Core.Path.{◌≡◌, refl, sym, ap, ◌∙◌}
use Rattle.lowering.specs.Expression.{
  Rule,
  boolean,
  unit,
  constant,
  interpolated,
  array,
  variable,
  this,
  fn_call,
  chain,
  and,
  or,
  coalesce,
  residual,
}
use Rattle.lowering.specs.Call as Call
use Rattle.lowering.specs.Flatten as Flatten
use Rattle.expr_rules.specs.declared.kinds.Rule as Kinds
use Rattle.expr_rules.specs.declared.calls.CallRule as Calls
use Rattle.expr_rules.specs.declared.calls.First as Firsts
use Rattle.expr_rules.specs.declared.chains.StepRule as StepRules
use Rattle.expr_rules.specs.Answers.{rule_of, call_rule_of, first_of, step_rule_of}
use Rattle.expr_rules.specs.Inverse.{step_rule_from}

unfoldable pub rule_from : Kinds.Rule → Rule
rule_from Kinds.TheVariants.Boolean = boolean
rule_from Kinds.TheVariants.Unit = unit
rule_from Kinds.TheVariants.Constant = constant
rule_from Kinds.TheVariants.Interpolated = interpolated
rule_from Kinds.TheVariants.Array = array
rule_from Kinds.TheVariants.Variable = variable
rule_from Kinds.TheVariants.This = this
rule_from Kinds.TheVariants.FnCall = fn_call
rule_from Kinds.TheVariants.Chain = chain
rule_from Kinds.TheVariants.And = and
rule_from Kinds.TheVariants.Or = or
rule_from Kinds.TheVariants.Coalesce = coalesce
rule_from Kinds.TheVariants.Residual = residual

rule-back : (r : Rule) → rule_from (rule_of r) ≡ r
unfolding rule_of rule_from
rule-back boolean = refl
rule-back unit = refl
rule-back constant = refl
rule-back interpolated = refl
rule-back array = refl
rule-back variable = refl
rule-back this = refl
rule-back fn_call = refl
rule-back chain = refl
rule-back and = refl
rule-back or = refl
rule-back coalesce = refl
rule-back residual = refl

pub rule_is : (r : Rule) (k : Kinds.Rule) → rule_of r ≡ k → rule_from k ≡ r
rule_is r k h = ap rule_from (sym h) ∙ rule-back r

unfoldable pub call_rule_from : Calls.CallRule → Call.CallRule
call_rule_from Calls.TheVariants.FnPtr = Call.fn_ptr
call_rule_from Calls.TheVariants.FnPtrCall = Call.fn_ptr_call
call_rule_from Calls.TheVariants.Lowerable = Call.lowerable
call_rule_from Calls.TheVariants.Eval = Call.eval
call_rule_from Calls.TheVariants.Residual = Call.residual

call_back : (r : Call.CallRule) → call_rule_from (call_rule_of r) ≡ r
unfolding call_rule_of call_rule_from
call_back Call.fn_ptr = refl
call_back Call.fn_ptr_call = refl
call_back Call.lowerable = refl
call_back Call.eval = refl
call_back Call.residual = refl

pub call-is : (r : Call.CallRule) (k : Calls.CallRule) → call_rule_of r ≡ k → call_rule_from k ≡ r
call-is r k h = ap call_rule_from (sym h) ∙ call_back r

unfoldable pub first_from : Firsts.First → Call.First
first_from (Firsts.TheVariants.Local slot) = Call.local slot
first_from Firsts.TheVariants.Named = Call.named
first_from Firsts.TheVariants.This = Call.this
first_from Firsts.TheVariants.Value = Call.value

first_back : (r : Call.First) → first_from (first_of r) ≡ r
unfolding first_of first_from
first_back (Call.local slot) = refl
first_back Call.named = refl
first_back Call.this = refl
first_back Call.value = refl

pub first-is : (r : Call.First) (k : Firsts.First) → first_of r ≡ k → first_from k ≡ r
first-is r k h = ap first_from (sym h) ∙ first_back r

step_back : (r : Flatten.StepRule) → step_rule_from (step_rule_of r) ≡ r
unfolding step_rule_of step_rule_from
step_back Flatten.index = refl
step_back Flatten.property = refl
step_back Flatten.method = refl
step_back Flatten.none = refl

pub step_is : (r : Flatten.StepRule) (k : StepRules.StepRule) → step_rule_of r ≡ k → step_rule_from k ≡ r
step_is r k h = ap step_rule_from (sym h) ∙ step_back r
