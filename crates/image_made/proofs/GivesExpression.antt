-- Every expression gives good pools and instructions that name what is there.
use Prim.Native.Nat.{ℕ, zero, suc, ◌-◌, ◌≤◌, ◌<◌}
use mathlib.Core.List.{List}
use native.Mathlib.Omega.{arith}
use Rattle.sheet.specs.Sections.{text_count}
use Rattle.sheet.specs.Node.{field_a, count, child}
use Rattle.sheet.specs.Walk.{skip}
use Rattle.sheet.specs.Namespace.{namespace}
use Rattle.lowering.specs.Pools.{Pools, no_pools, const_of}
use Rattle.lowering.specs.Out.{Rec}
use Rattle.lowering.specs.Nodes.{Valid, Row}
use Rattle.lowering.proofs.NodesLaws.{row-less}
use Rattle.lowering.specs.Expression.{Rule, boolean, unit, constant, interpolated, array, variable, this, fn_call, chain, and, or, coalesce}
use Rattle.lowering.specs.Expression.{residual, rule, by_rule, expression}
use Rattle.image_made.proofs.Listed.{ConstOk, PoolsOk}
use Rattle.image_made.proofs.Gives.{GivesOut, GivesAll}
use Rattle.image_made.proofs.GivesLeaf.{residual-gives, boolean-gives, unit-gives, this-gives, constant-gives, variable-gives}
use Rattle.image_made.proofs.GivesBranch.{array-gives, interpolated-gives, short_circuit-gives, coalesce-gives}
use Rattle.image_made.proofs.GivesCall.{CallFacts, fn_call-gives}
use Rattle.image_made.proofs.GivesChain.{ChainFacts, chain-gives}

-- what is wanted of a node that is lowered by this rule
abbrev pub RuleFacts : List ℕ → ℕ → Rule → Type 0
RuleFacts s j boolean = field_a s j ≤ 1
RuleFacts s j unit = Prim.Unit {0}
RuleFacts s j constant = ConstOk s (const_of s j)
RuleFacts s j interpolated = Prim.Unit {0}
RuleFacts s j array = Prim.Unit {0}
RuleFacts s j variable = (field_a s j < text_count s) × (namespace s j ≤ text_count s)
RuleFacts s j this = Prim.Unit {0}
RuleFacts s j fn_call = CallFacts s j
RuleFacts s j chain = ChainFacts s j
RuleFacts s j and = Prim.Unit {0}
RuleFacts s j or = Prim.Unit {0}
RuleFacts s j coalesce = Valid s (skip s (count s j - 1) (child j))
RuleFacts s j residual = Prim.Unit {0}

-- what the check says of a node
pub record NodeFacts (s : List ℕ) (j : ℕ) : Type 0 where
  pub row : Row s (count s j) (child j)
  pub rule-facts : RuleFacts s j (rule s j)

module _ (s : List ℕ) (T : ℕ) (N : (j : ℕ) → Valid s j → NodeFacts s j) where
  -- one level, by the rule of the node
  by-rule : (rec : Rec) → GivesAll s T rec → (j b d : ℕ) (p : Pools) → Valid s j → PoolsOk s p → (r : Rule) → RuleFacts s j r
      → GivesOut s T p (by_rule r s rec j b d p)
  unfolding by_rule
  by-rule rec L j b d p v G boolean F = boolean-gives s T p G j d F
  by-rule rec L j b d p v G unit F = unit-gives s T p G d
  by-rule rec L j b d p v G constant F = constant-gives s T p G j d F
  by-rule rec L j b d p v G interpolated F = interpolated-gives s T rec L j b d p (N j v).row G
  by-rule rec L j b d p v G array F = array-gives s T rec L j b d p v (N j v).row G
  by-rule rec L j b d p v G variable F = variable-gives s T p G j d F.0 F.1
  by-rule rec L j b d p v G this F = this-gives s T p G j d
  by-rule rec L j b d p v G fn_call F = fn_call-gives s T rec L j F b d p G
  by-rule rec L j b d p v G chain F = chain-gives s T rec L j F b d p G
  by-rule rec L j b d p v G and F = short_circuit-gives s T rec L 0 j b d p (omega arith) (N j v).row G
  by-rule rec L j b d p v G or F = short_circuit-gives s T rec L 1 j b d p (omega arith) (N j v).row G
  by-rule rec L j b d p v G coalesce F = coalesce-gives s T rec L j b d p (row-less (omega arith) (N j v).row) F G
  by-rule rec L j b d p v G residual F = residual-gives s T p G j d v

  -- every number of levels
  pub expression-gives : (levels : ℕ) → GivesAll s T (expression levels s)
  unfolding expression
  expression-gives zero = record { gives = λ j b d p v G. residual-gives s T p G j d v }
  expression-gives (suc levels) = record {
    gives = λ j b d p v G. by-rule (expression levels s) (expression-gives levels) j b d p v G (rule s j) (N j v).rule-facts;
  }

-- the empty pools are good
pub no-pools : (s : List ℕ) → PoolsOk s no_pools
unfolding no_pools
no-pools s = record { consts = tt; names = tt; tokens = tt; residuals = tt; chains = tt; steps = tt }
