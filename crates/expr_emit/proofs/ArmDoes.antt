-- A node by its rule: each arm of `expression` does what the definition says of the node.
use Rattle.std.proofs.Common.{◌≡◌, ℕ, ◌+◌, ◌-◌, ◌≤◌, List, sym, ap, ◌∙◌, arith}
use Rattle.sheet.specs.Node.{kind, count, field_a, position}
use Rattle.bytecode.specs.declared.Op.TheVariants as Ops
use Rattle.lowering.specs.Expression.{rule}
use Rattle.lowering.specs.Nodes.{Right, Valid}
use Rattle.expr_rules.specs.declared.kinds.Rule as Kinds
use Rattle.expr_rules.specs.Answers.{rule_of}
use Rattle.expr_count.specs.Count.{tally}
use Rattle.expr_model.specs.Made.{Made, place, emit, residual, lowered}
use Rattle.expr_model.specs.Construct.{boolean, unit, constant, variable, this_of, interpolated, array, fn_call, chain, short_circuit}
use Rattle.expr_model.specs.Construct.{coalesce}
use Rattle.expr_model.proofs.RuleLaws.{
  lowered_none,
  lowered-boolean,
  lowered-unit,
  lowered-constant,
  lowered-interpolated,
  lowered-array,
  lowered-variable,
  lowered-this,
  lowered-call,
  lowered-chain,
  lowered-and,
  lowered-or,
  lowered-coalesce,
  lowered-residual,
}
use Rattle.expr_model.proofs.NodeLaws.{call-kind, chain_link, coalesce-some}
use Rattle.scratch.specs.declared.Layout.{Layout}
use Rattle.scratch_keys.specs.Keys.{key_of}
use Rattle.scratch_store.specs.declared.State.{State}
use Rattle.scratch_store.specs.Holds.{Holds}
use Rattle.scratch_store.specs.Does.{Fits, Does}
use Rattle.scratch_store.proofs.DoesLaws.{does-same}
use Rattle.scratch_keys.specs.Used.{ConstKey, NameKey}
use Rattle.expr_emit.specs.Plain.{Unmarked}
use Rattle.expr_emit.specs.Linked.{Linked}
use Rattle.expr_emit.proofs.KeyFacts.{variable-kind, const-key, chain-key, own_key}
use Rattle.expr_emit.proofs.WayLaws.{unmarked-variable}
use Rattle.expr_emit.proofs.Doing.{does_at}
use Rattle.expr_emit.proofs.CycleMore.{does-as}

pub arm-none : {s : List ℕ} {l : Layout} {xs ys : List ℕ} {st r : State} (levels j : ℕ) → levels ≡ 0 → Does s l xs st ys r (residual j)
    → Does s l xs st ys r (lowered levels s j)
arm-none {s} levels j h d = does-same (lowered levels s j) (λ a g. lowered_none levels s j a h) d

module _ {s : List ℕ} {l : Layout} {xs ys : List ℕ} {st r : State} (levels j : ℕ) (some : levels ≡ 0 → ⊥) (by : Kinds.Rule)
    (by-is : by ≡ rule_of (rule s j)) where
  pub arm-boolean : (k : ℕ) → by ≡ Kinds.TheVariants.Boolean → k ≡ field_a s j → Does s l xs st ys r (emit (Ops.Bool k) 0 0)
      → Does s l xs st ys r (lowered levels s j)
  unfolding boolean
  arm-boolean k e k-is d =
      does-same (lowered levels s j) (λ a g. lowered-boolean levels s j a some (sym by-is ∙ e))
      (does_at (λ n. emit (Ops.Bool n) 0 0) k-is d)

  pub arm-unit : by ≡ Kinds.TheVariants.Unit → Does s l xs st ys r (emit Ops.Unit 0 0) → Does s l xs st ys r (lowered levels s j)
  unfolding unit
  arm-unit e d = does-same (lowered levels s j) (λ a g. lowered-unit levels s j a some (sym by-is ∙ e)) d

  pub arm-constant : Valid s j → by ≡ Kinds.TheVariants.Constant → (ConstKey s j → Does s l xs st ys r (constant s j))
      → Does s l xs st ys r (lowered levels s j)
  arm-constant v e d =
      let is = sym by-is ∙ e in
      does-same (lowered levels s j) (λ a g. lowered-constant levels s j a some is) (d (const-key s j v is))

  pub arm-variable : Valid s j → by ≡ Kinds.TheVariants.Variable → (Unmarked s j → NameKey s (key_of j 0) → Does s l xs st ys r (variable s j))
      → Does s l xs st ys r (lowered levels s j)
  arm-variable v e d =
      let is = sym by-is ∙ e in
      let k = variable-kind s j is in
      does-same (lowered levels s j) (λ a g. lowered-variable levels s j a some is)
      (d (unmarked-variable s j k) (own_key s j v (omega arith)))

  pub arm-this : (pos : ℕ) → by ≡ Kinds.TheVariants.This → pos ≡ position s j → Does s l xs st ys r (emit Ops.LoadThis pos 0)
      → Does s l xs st ys r (lowered levels s j)
  unfolding this_of
  arm-this pos e pos-is d =
      does-same (lowered levels s j) (λ a g. lowered-this levels s j a some (sym by-is ∙ e)) (does_at (λ p. emit Ops.LoadThis p 0) pos-is d)

  pub arm-residual : by ≡ Kinds.TheVariants.Residual → Does s l xs st ys r (residual j) → Does s l xs st ys r (lowered levels s j)
  arm-residual e d = does-same (lowered levels s j) (λ a g. lowered-residual levels s j a some (sym by-is ∙ e)) d

  pub arm-interpolated : by ≡ Kinds.TheVariants.Interpolated → Does s l xs st ys r (interpolated s (lowered (levels - 1) s) j)
      → Does s l xs st ys r (lowered levels s j)
  arm-interpolated e d = does-same (lowered levels s j) (λ a g. lowered-interpolated levels s j a some (sym by-is ∙ e)) d

  pub arm-array : by ≡ Kinds.TheVariants.Array → Does s l xs st ys r (array s (lowered (levels - 1) s) j)
      → Does s l xs st ys r (lowered levels s j)
  arm-array e d = does-same (lowered levels s j) (λ a g. lowered-array levels s j a some (sym by-is ∙ e)) d

  pub arm-call : by ≡ Kinds.TheVariants.FnCall → (kind s j ≡ 13 → Does s l xs st ys r (fn_call s (lowered (levels - 1) s) j))
      → Does s l xs st ys r (lowered levels s j)
  arm-call e d =
      let is = sym by-is ∙ e in
      does-same (lowered levels s j) (λ a g. lowered-call levels s j a some is) (d (call-kind s j is))

  pub arm-chain : Right s → Valid s j → by ≡ Kinds.TheVariants.Chain
      → (Linked s j → Does s l xs st ys r (chain s (lowered (levels - 1) s) j)) → Does s l xs st ys r (lowered levels s j)
  arm-chain C v e d =
      let is = sym by-is ∙ e in
      does-same (lowered levels s j) (λ a g. lowered-chain levels s j a some is)
      (d (record { link = chain_link s j C v is; key = chain-key s j v is }))

  -- `end` as the code counts it is the place behind the node's code
  module _ (end : ℕ) (end_is : (a : Made) → Holds s l xs st a → Fits l (lowered levels s j a) → end ≡ place a + (tally levels s j).len) where
    pub arm-and : by ≡ Kinds.TheVariants.And → Does s l xs st ys r (short_circuit 0 s (lowered (levels - 1) s) end j)
        → Does s l xs st ys r (lowered levels s j)
    arm-and e d =
        does-as (lowered levels s j)
        (λ a g f. ap (λ n. short_circuit 0 s (lowered (levels - 1) s) n j a) (end_is a g f) ∙ lowered-and levels s j a some (sym by-is ∙ e))
        d

    pub arm-or : by ≡ Kinds.TheVariants.Or → Does s l xs st ys r (short_circuit 1 s (lowered (levels - 1) s) end j)
        → Does s l xs st ys r (lowered levels s j)
    arm-or e d =
        does-as (lowered levels s j)
        (λ a g f. ap (λ n. short_circuit 1 s (lowered (levels - 1) s) n j a) (end_is a g f) ∙ lowered-or levels s j a some (sym by-is ∙ e)) d

    pub arm-coalesce : Right s → Valid s j → by ≡ Kinds.TheVariants.Coalesce
        → (1 ≤ count s j → Does s l xs st ys r (coalesce s (lowered (levels - 1) s) end j)) → Does s l xs st ys r (lowered levels s j)
    arm-coalesce C v e d =
        let is = sym by-is ∙ e in
        does-as (lowered levels s j)
        (λ a g f. ap (λ n. coalesce s (lowered (levels - 1) s) n j a) (end_is a g f) ∙ lowered-coalesce levels s j a some is)
        (d (coalesce-some s j C v is))
