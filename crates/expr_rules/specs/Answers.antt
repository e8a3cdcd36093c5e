-- The rules of the definition as the code's enums give them.
use Rattle.std.specs.Prelude.{ℕ, ◌/◌, ◌%◌, Bool, true, false, ◌&&◌, not, List, leb, eqb, get_or, Option}
use Rattle.std.specs.Bool.{then_some}
use Rattle.sheet.specs.Node.{count, field_b, field_c, child}
use Rattle.sheet.specs.Namespace.{role}
use Rattle.lowering.specs.Kinds.{index_kind}
use Rattle.lowering.specs.Expression.{Rule, boolean, unit, constant, interpolated, array, variable, this, fn_call, chain, and, or, coalesce}
use Rattle.lowering.specs.Expression.{residual, rules}
use Rattle.lowering.specs.Call as Call
use Rattle.lowering.specs.Flatten as Flatten
use Rattle.expr_rules.specs.declared.kinds.Rule as Kinds
use Rattle.expr_rules.specs.declared.calls.CallRule as Calls
use Rattle.expr_rules.specs.declared.calls.First as Firsts
use Rattle.expr_rules.specs.declared.chains.StepRule as StepRules

unfoldable pub rule_of : Rule → Kinds.Rule
rule_of boolean = Kinds.TheVariants.Boolean
rule_of unit = Kinds.TheVariants.Unit
rule_of constant = Kinds.TheVariants.Constant
rule_of interpolated = Kinds.TheVariants.Interpolated
rule_of array = Kinds.TheVariants.Array
rule_of variable = Kinds.TheVariants.Variable
rule_of this = Kinds.TheVariants.This
rule_of fn_call = Kinds.TheVariants.FnCall
rule_of chain = Kinds.TheVariants.Chain
rule_of and = Kinds.TheVariants.And
rule_of or = Kinds.TheVariants.Or
rule_of coalesce = Kinds.TheVariants.Coalesce
rule_of residual = Kinds.TheVariants.Residual

-- the rule of a kind
abbrev pub rule_at : ℕ → Rule
rule_at k = get_or rules k residual

unfoldable pub call_rule_of : Call.CallRule → Calls.CallRule
call_rule_of Call.fn_ptr = Calls.TheVariants.FnPtr
call_rule_of Call.fn_ptr_call = Calls.TheVariants.FnPtrCall
call_rule_of Call.lowerable = Calls.TheVariants.Lowerable
call_rule_of Call.eval = Calls.TheVariants.Eval
call_rule_of Call.residual = Calls.TheVariants.Residual

unfoldable pub first_of : Call.First → Firsts.First
first_of (Call.local slot) = Firsts.TheVariants.Local slot
first_of Call.named = Firsts.TheVariants.Named
first_of Call.this = Firsts.TheVariants.This
first_of Call.value = Firsts.TheVariants.Value

-- a call's receiver, where it has one
unfoldable pub receiver_node : List ℕ → ℕ → Option ℕ
receiver_node s j = then_some (eqb (field_c s j) 0 && eqb (field_b s j) 0 && leb 1 (count s j)) (child j)

-- the role of a call's receiver, 0 where it has none
unfoldable pub receiver_role : List ℕ → ℕ → ℕ
receiver_role s j =
    elim (eqb (field_c s j) 0 && eqb (field_b s j) 0 && leb 1 (count s j)) [ true ↦ role s (child j) | false ↦ 0 ]

unfoldable pub step_rule_of : Flatten.StepRule → StepRules.StepRule
step_rule_of Flatten.index = StepRules.TheVariants.Index
step_rule_of Flatten.property = StepRules.TheVariants.Property
step_rule_of Flatten.method = StepRules.TheVariants.Method
step_rule_of Flatten.none = StepRules.TheVariants.Nothing

-- a link with these flags goes on with a rest of kind k
abbrev pub leads_on : ℕ → ℕ → Bool
leads_on flags k = not (eqb (flags / 2 % 2) 1) && Flatten.is_chain k

-- the step of a link of kind k onto a node of kind m
unfoldable pub rule_onto : ℕ → ℕ → Flatten.StepRule
rule_onto k m = elim (eqb k index_kind) [ true ↦ Flatten.index | false ↦ Flatten.dot_rule m ]
