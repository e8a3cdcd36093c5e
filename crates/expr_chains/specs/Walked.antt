-- What a walk along the links of a chain answers, by the definition.
use Rattle.std.specs.Prelude.{ℕ, ◌≡◌, Bool, true, false, List}
use Rattle.sheet.specs.Limits.{max_depth}
use Rattle.lowering.specs.Flatten as flatten
use Rattle.expr_chains.specs.declared.Counts.{Counts}
use Rattle.expr_chains.specs.declared.Far.{Far}
use Rattle.expr_chains.specs.declared.Distance.{Distance}
use Rattle.expr_chains.specs.declared.Distance.TheVariants.{Nowhere, TakenBack, Whole}
use Rattle.expr_chains.specs.Steps.{link_count, chain_operands}
use Rattle.expr_chains.specs.Lowers as lowering

-- the links of the chain of node j, and the operands of their steps
pub record Counted (s : List ℕ) (j : ℕ) (n : Counts) : Type 0 where
  pub links_are : n.links ≡ link_count s j
  pub operands_are : n.operands ≡ chain_operands s j

-- each link of a chain that comes so far has a step
unfoldable pub flattens_at : Distance → Bool
flattens_at Nowhere = false
flattens_at TakenBack = true
flattens_at Whole = true

-- and each step lowers
unfoldable pub lowers_at : Distance → Bool
lowers_at Nowhere = false
lowers_at TakenBack = false
lowers_at Whole = true

-- link c alone lets a chain come as far as d
pub record Grades (s : List ℕ) (c : ℕ) (d : Distance) : Type 0 where
  pub flattens_is : flattens_at d ≡ flatten.has_step (flatten.step_rule s c)
  pub lowers_is : lowers_at d ≡ lowering.step_lowers s c

-- how far the chain of node j comes
pub record Comes (s : List ℕ) (j : ℕ) (f : Far) : Type 0 where
  pub flattens_is : flattens_at f.distance ≡ flatten.flattens s (flatten.links max_depth s j)
  pub lowers_is : lowers_at f.distance ≡ lowering.lowers s j
  pub operands_are : f.operands ≡ chain_operands s j
