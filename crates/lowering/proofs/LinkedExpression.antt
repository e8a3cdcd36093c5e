-- The lowering of an expression: in a checked sheet all of its code is reached, whatever the levels.
use Prim.Native.Nat.{ℕ, zero, suc, ◌≤◌}
use mathlib.Core.Path.{◌≡◌, refl}
use mathlib.Core.Bool.{true}
use mathlib.Core.List.{List}
use native.Mathlib.Omega.{arith}
use lib.Dec.{leb}
use lib.ListN.{get_or}
use borrow.Author.Tests.{leb-true}
use Rattle.words.specs.Count.{all_below}
use Rattle.words.proofs.CountLaws.{all-at}
use Rattle.sheet.specs.Node.{kind, count}
use Rattle.check_sizes.specs.Sizes.{sizes_ok}
use Rattle.sheet.specs.Kinds.{last_kind}
use Rattle.check_shape.specs.Kinds.{bound}
use Rattle.check_shape.specs.Shape.{shape_ok}
use Rattle.lowering.specs.Limits.{max_levels}
use Rattle.lowering.specs.Pools.{Pools, no_pools}
use Rattle.lowering.specs.Out.{Rec}
use Rattle.lowering.specs.Expression.{Rule, boolean, unit, constant, interpolated, array, variable, this, fn_call, chain, and, or}
use Rattle.lowering.specs.Expression.{coalesce, residual, rules, rule, by_rule, expression}
use Rattle.lowering.specs.Program.{plain}
use Rattle.lowering.proofs.Effect.{Context}
use Rattle.lowering.proofs.Linked.{Linked}
use Rattle.lowering.proofs.Whole.{context_of, AllReached}
use Rattle.lowering.specs.Nodes.{Valid, Right}
use Rattle.lowering.proofs.NodesLaws.{right, node-bounds, children, root-valid}
use Rattle.lowering.proofs.LinksAll.{LinksAll, link-residual}
use Rattle.lowering.proofs.LinkedLeaf.{boolean-links, unit-links, constant-links, variable-links, this-links}
use Rattle.lowering.proofs.LinkedArray.{array-links}
use Rattle.lowering.proofs.LinkedInterpolated.{interpolated-links}
use Rattle.lowering.proofs.LinkedShortCircuit.{short-circuit-links}
use Rattle.lowering.proofs.LinkedCoalesce.{coalesce-links}
use Rattle.lowering.proofs.LinkedCall.{call-links}
use Rattle.lowering.proofs.LinkedChain.{chain-links}

-- the least count of children of a node that has the rule
abbrev pub least : Rule → ℕ
least boolean = 0
least unit = 0
least constant = 0
least interpolated = 0
least array = 0
least variable = 0
least this = 0
least fn_call = 0
least chain = 2
least and = 1
least or = 1
least coalesce = 1
least residual = 0

least-bound : (k : ℕ) → k ≤ last_kind → least (get_or rules k residual) ≤ bound k 0
unfolding all_below rules bound
least-bound k h =
    leb-true (least (get_or rules k residual)) (bound k 0)
    (all-at (λ k. leb (least (get_or rules k residual)) (bound k 0)) (suc last_kind) k refl (omega arith))

module _ (s : List ℕ) (C : Right s) where
  pub rule-count : (j : ℕ) → Valid s j → least (rule s j) ≤ count s j
  unfolding rule
  rule-count j v = let h = node-bounds s C j v in omega (arith, least-bound (kind s j) h.0)

  module _ (rec : Rec) (L : LinksAll s rec) where
    by-rule-links : (r : Rule) (X : Context) (j b d : ℕ) (p : Pools) → Valid s j → least r ≤ count s j
        → Linked X b (by_rule r s rec j b d p).code
    unfolding by_rule
    by-rule-links boolean X j b d p v h = boolean-links s X j b d p
    by-rule-links unit X j b d p v h = unit-links s X j b d p
    by-rule-links constant X j b d p v h = constant-links s X j b d p
    by-rule-links interpolated X j b d p v h = interpolated-links s rec L X j b d p (children s C j v)
    by-rule-links array X j b d p v h = array-links s rec L X j b d p (children s C j v)
    by-rule-links variable X j b d p v h = variable-links s X j b d p
    by-rule-links this X j b d p v h = this-links s X j b d p
    by-rule-links fn_call X j b d p v h = call-links s rec L X j (children s C j v) b d p
    by-rule-links chain X j b d p v h = chain-links s C rec L X j b d p (record { valid = v; two = h })
    by-rule-links and X j b d p v h = short-circuit-links s rec L 0 X j b d p h (children s C j v)
    by-rule-links or X j b d p v h = short-circuit-links s rec L 1 X j b d p h (children s C j v)
    by-rule-links coalesce X j b d p v h = coalesce-links s rec L X j b d p h (children s C j v)
    by-rule-links residual X j b d p v h = link-residual j d p

  levels-link : (levels : ℕ) → LinksAll s (expression levels s)
  unfolding expression
  levels-link zero = record { links = λ X j b d p v. link-residual j d p }
  levels-link (suc levels) = record {
    links = λ X j b d p v. by-rule-links (expression levels s) (levels-link levels) (rule s j) X j b d p v (rule-count j v);
  }

pub expression-links : (levels : ℕ) (s : List ℕ) → sizes_ok s ≡ true → shape_ok s ≡ true → LinksAll s (expression levels s)
expression-links levels s h g = levels-link s (right s h g) levels

-- an expression's program: every place is reached
pub plain-reached : (s : List ℕ) → sizes_ok s ≡ true → shape_ok s ≡ true → AllReached (plain (expression max_levels s 0 0 0 no_pools))
unfolding plain
plain-reached s h g =
    let X = context_of (plain (expression max_levels s 0 0 0 no_pools)) in
    record { reached = ((expression-links max_levels s h g).links X 0 0 0 no_pools (root-valid s (right s h g))).inside }
