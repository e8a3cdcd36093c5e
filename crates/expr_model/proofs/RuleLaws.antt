-- A node's lowering is the change of its rule, with the lowering of one level less for its operands.
use Prim.Native.Nat.{ℕ, zero, suc, ◌+◌, ◌-◌}
use mathlib.Core.Path.{◌≡◌, sym, ap, ◌∙◌}
use mathlib.Core.List.{List}
use native.Mathlib.Omega.{arith}
use lib.ListN.{length}
use Rattle.lowering.specs.Out.{Rec}
use Rattle.lowering.specs.Expression.{Rule, rule, expression}
use Rattle.lowering.specs.Expression as Expression
use Rattle.expr_rules.specs.declared.kinds.Rule as Kinds
use Rattle.expr_rules.specs.Answers.{rule_of}
use Rattle.expr_rules.proofs.InverseLaws.{rule_from, rule_is}
use Rattle.expr_count.specs.Count.{tally}
use Rattle.expr_count.proofs.CountLaws.{tally-length}
use Rattle.expr_chains.proofs.WalkLaws.{NamesGrow}
use Rattle.expr_chains.proofs.AddsLaws.{names-grow}
use Rattle.expr_model.specs.Made.{Made, place, lowered}
use Rattle.expr_model.specs.Made as Made
use Rattle.expr_model.specs.Construct.{by_rule, boolean, unit, constant, interpolated, array, variable, this_of, fn_call, chain}
use Rattle.expr_model.specs.Construct.{short_circuit, coalesce}
use Rattle.expr_model.proofs.Put.{behind, low_of}
use Rattle.expr_model.proofs.LeafLaws.{residual-is, boolean-is, unit-is, constant-is, variable-is, this-is}
use Rattle.expr_model.proofs.ConstructLaws.{array-is, interpolated-is, short-is, coalesce-is}
use Rattle.expr_model.proofs.CallLaws.{call-is}
use Rattle.expr_model.proofs.ChainLaws.{chain-is}

-- by any rule; `end` is the place behind the node's code
rule-gives : (s : List ℕ) (rec : Rec) → NamesGrow rec → (r : Rule) (end j : ℕ) (a : Made)
    → end ≡ place a + length (Expression.by_rule r s rec j (place a) a.depth a.pools).code
    → by_rule r s (low_of rec) end j a ≡ behind (Expression.by_rule r s rec j) a
unfolding by_rule Expression.by_rule
rule-gives s rec G Expression.boolean end j a h = boolean-is s j a
rule-gives s rec G Expression.unit end j a h = unit-is a
rule-gives s rec G Expression.constant end j a h = constant-is s j a
rule-gives s rec G Expression.interpolated end j a h = interpolated-is s rec j a
rule-gives s rec G Expression.array end j a h = array-is s rec j a
rule-gives s rec G Expression.variable end j a h = variable-is s j a
rule-gives s rec G Expression.this end j a h = this-is s j a
rule-gives s rec G Expression.fn_call end j a h = call-is s rec j a
rule-gives s rec G Expression.chain end j a h = chain-is s rec G j a
rule-gives s rec G Expression.and end j a h = short-is s rec j a 0 end h
rule-gives s rec G Expression.or end j a h = short-is s rec j a 1 end h
rule-gives s rec G Expression.coalesce end j a h = coalesce-is s rec j a end h
rule-gives s rec G Expression.residual end j a h = residual-is j a

-- the place behind the code of node j
abbrev pub end_of : ℕ → List ℕ → ℕ → Made → ℕ
end_of levels s j a = place a + (tally levels s j).len

pub by-rule : (levels : ℕ) (s : List ℕ) (j : ℕ) (a : Made)
    → lowered (suc levels) s j a ≡ by_rule (rule s j) s (lowered levels s) (end_of (suc levels) s j a) j a
unfolding lowered expression
by-rule levels s j a =
    let rec = expression levels s in
    let end : end_of (suc levels) s j a ≡ place a + length (Expression.by_rule (rule s j) s rec j (place a) a.depth a.pools).code
    = ap (λ n. place a + n) (sym (tally-length (suc levels) s j (place a) a.depth a.pools)) in
    sym (rule-gives s rec (names-grow s levels) (rule s j) (end_of (suc levels) s j a) j a end)

by-none : (s : List ℕ) (j : ℕ) (a : Made) → lowered zero s j a ≡ Made.residual j a
unfolding lowered expression
by-none s j a = sym (residual-is j a)

-- In the shapes of the code: `levels` left, the rule by the code's name of it
module _ (levels : ℕ) (s : List ℕ) (j : ℕ) (a : Made) where
  pub lowered_none : levels ≡ 0 → Made.residual j a ≡ lowered levels s j a
  lowered_none h = sym (ap (λ n. lowered n s j a) h ∙ by-none s j a)

  module _ (some : levels ≡ 0 → ⊥) where
    lowered-some : by_rule (rule s j) s (lowered (levels - 1) s) (end_of levels s j a) j a ≡ lowered levels s j a
    lowered-some =
        let e : suc (levels - 1) ≡ levels = omega arith in
        sym (by-rule (levels - 1) s j a ∙ ap (λ n. by_rule (rule s j) s (lowered (levels - 1) s) (end_of n s j a) j a) e)
        ∙ ap (λ n. lowered n s j a) e

    lowered-at : (k : Kinds.Rule) → rule_of (rule s j) ≡ k
        → by_rule (rule_from k) s (lowered (levels - 1) s) (end_of levels s j a) j a ≡ lowered levels s j a
    lowered-at k h = ap (λ r. by_rule r s (lowered (levels - 1) s) (end_of levels s j a) j a) (rule_is (rule s j) k h) ∙ lowered-some

    pub lowered-boolean : rule_of (rule s j) ≡ Kinds.TheVariants.Boolean → boolean s j a ≡ lowered levels s j a
    unfolding by_rule rule_from
    lowered-boolean h = lowered-at Kinds.TheVariants.Boolean h

    pub lowered-unit : rule_of (rule s j) ≡ Kinds.TheVariants.Unit → unit a ≡ lowered levels s j a
    unfolding by_rule rule_from
    lowered-unit h = lowered-at Kinds.TheVariants.Unit h

    pub lowered-constant : rule_of (rule s j) ≡ Kinds.TheVariants.Constant → constant s j a ≡ lowered levels s j a
    unfolding by_rule rule_from
    lowered-constant h = lowered-at Kinds.TheVariants.Constant h

    pub lowered-interpolated : rule_of (rule s j) ≡ Kinds.TheVariants.Interpolated
        → interpolated s (lowered (levels - 1) s) j a ≡ lowered levels s j a
    unfolding by_rule rule_from
    lowered-interpolated h = lowered-at Kinds.TheVariants.Interpolated h

    pub lowered-array : rule_of (rule s j) ≡ Kinds.TheVariants.Array → array s (lowered (levels - 1) s) j a ≡ lowered levels s j a
    unfolding by_rule rule_from
    lowered-array h = lowered-at Kinds.TheVariants.Array h

    pub lowered-variable : rule_of (rule s j) ≡ Kinds.TheVariants.Variable → variable s j a ≡ lowered levels s j a
    unfolding by_rule rule_from
    lowered-variable h = lowered-at Kinds.TheVariants.Variable h

    pub lowered-this : rule_of (rule s j) ≡ Kinds.TheVariants.This → this_of s j a ≡ lowered levels s j a
    unfolding by_rule rule_from
    lowered-this h = lowered-at Kinds.TheVariants.This h

    pub lowered-call : rule_of (rule s j) ≡ Kinds.TheVariants.FnCall → fn_call s (lowered (levels - 1) s) j a ≡ lowered levels s j a
    unfolding by_rule rule_from
    lowered-call h = lowered-at Kinds.TheVariants.FnCall h

    pub lowered-chain : rule_of (rule s j) ≡ Kinds.TheVariants.Chain → chain s (lowered (levels - 1) s) j a ≡ lowered levels s j a
    unfolding by_rule rule_from
    lowered-chain h = lowered-at Kinds.TheVariants.Chain h

    pub lowered-and : rule_of (rule s j) ≡ Kinds.TheVariants.And
        → short_circuit 0 s (lowered (levels - 1) s) (end_of levels s j a) j a ≡ lowered levels s j a
    unfolding by_rule rule_from
    lowered-and h = lowered-at Kinds.TheVariants.And h

    pub lowered-or : rule_of (rule s j) ≡ Kinds.TheVariants.Or
        → short_circuit 1 s (lowered (levels - 1) s) (end_of levels s j a) j a ≡ lowered levels s j a
    unfolding by_rule rule_from
    lowered-or h = lowered-at Kinds.TheVariants.Or h

    pub lowered-coalesce : rule_of (rule s j) ≡ Kinds.TheVariants.Coalesce
        → coalesce s (lowered (levels - 1) s) (end_of levels s j a) j a ≡ lowered levels s j a
    unfolding by_rule rule_from
    lowered-coalesce h = lowered-at Kinds.TheVariants.Coalesce h

    pub lowered-residual : rule_of (rule s j) ≡ Kinds.TheVariants.Residual → Made.residual j a ≡ lowered levels s j a
    unfolding by_rule rule_from
    lowered-residual h = lowered-at Kinds.TheVariants.Residual h
