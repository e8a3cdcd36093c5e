-- Dot and Index: all of a chain's code is reached. A failed chain has no code but its residual.
use Prim.Native.Nat.{ℕ, ◌+◌, ◌≤◌}
use mathlib.Core.Path.{◌≡◌, refl, subst}
use mathlib.Core.Bool.{Bool, true, false, ◌||◌, and-eq-true_iff}
use mathlib.Core.List.{List, [], ◌∷◌}
use native.Mathlib.Omega.{arith}
use lib.ListN.{length}
use lib.Dec.{leb}
use borrow.Author.Tests.{leb-true}
use Rattle.lowering.specs.Call.{callee, is_lowerable_call}
use Rattle.text.specs.Keyword.{is_call, is_curry}
use Rattle.sheet.specs.Node.{count, position, child}
use Rattle.bytecode.specs.declared.Root.{Root}
use Rattle.bytecode.specs.declared.Root.TheVariants.{Local, Named, This, Temporary}
use Rattle.bytecode.specs.declared.Step.{Step}
use Rattle.bytecode.specs.declared.Op.TheVariants.{Chain}
use Rattle.lowering.specs.Limits.{max_levels, max_args}
use Rattle.lowering.specs.Code.{Code, ins}
use Rattle.lowering.specs.Pools.{Pools, chain_at}
use Rattle.lowering.specs.Out.{Rec, residual_expr}
use Rattle.lowering.specs.Operands.{operands}
use Rattle.lowering.specs.Flatten.{operand_of, StepRule, index, property, method, none, step_rule, links, flattens}
use Rattle.lowering.specs.Steps.{Stepped, stepped, failed, index_step, property_step, is_lowerable_method, method_after, method_step}
use Rattle.lowering.specs.Steps.{step_by, Walked, walked, stopped, onto, steps}
use Rattle.lowering.specs.Chain.{root_of, root_pools, on_stack, root_code, chain_of, chain}
use Rattle.lowering.specs.All.{All}
use Rattle.lowering.proofs.Effect.{Context}
use Rattle.lowering.proofs.Linked.{Linked, link, link-one, link-none}
use Rattle.lowering.specs.Nodes.{Valid, Right}
use Rattle.lowering.proofs.NodesLaws.{children, child-valid}
use Rattle.lowering.specs.ChainNodes.{Link}
use Rattle.lowering.proofs.ChainNodesLaws.{operand-valid, links-valid}
use Rattle.lowering.proofs.LinksAll.{LinksAll, link-residual}
use Rattle.lowering.proofs.LinkedOperands.{operands-link}

-- the code of one step, and of all steps, if there is any
abbrev StepLinks : Context → ℕ → Stepped → Type 1
StepLinks X b (stepped code x k q) = Linked X b code
StepLinks X b (failed q) = Prim.Unit {1}

abbrev WalkLinks : Context → ℕ → Walked → Type 1
WalkLinks X b (walked code xs n p) = Linked X b code
WalkLinks X b (stopped p) = Prim.Unit {1}

onto-links : {X : Context} {b : ℕ} (code : Code) (x : Step) (w : Walked) → Linked X b code → WalkLinks X (b + length code) w
    → WalkLinks X b (onto code x w)
unfolding onto
onto-links code x (walked rest xs n p) g h = link g h
onto-links code x (stopped p) g h = tt

-- a method that is lowered has few arguments
pub method-args : (s : List ℕ) (x : ℕ) → is_lowerable_method s x ≡ true → count s x ≤ max_args
unfolding is_lowerable_method
method-args s x h =
    leb-true (count s x) max_args
    ((and-eq-true_iff (is_call (callee s x) || is_curry (callee s x) || is_lowerable_call s x) (leb (count s x) max_args)).0 h).1

module _ (s : List ℕ) (rec : Rec) where
  pub method-lowers : (c n b d : ℕ) (p : Pools) → is_lowerable_method s (operand_of s c) ≡ true
      → method_step s rec c n b d p
      ≡ method_after s c (operand_of s c) n (operands s rec (count s (operand_of s c)) (child (operand_of s c)) b d p)
  unfolding method_step
  method-lowers c n b d p h = rw (h, method_step)

  pub method-fails : (c n b d : ℕ) (p : Pools) → is_lowerable_method s (operand_of s c) ≡ false → method_step s rec c n b d p ≡ failed p
  unfolding method_step
  method-fails c n b d p h = rw (h, method_step)

  steps-none : (n b d : ℕ) (p : Pools) → steps s rec [] n b d p ≡ walked [] [] n p
  unfolding steps
  steps-none n b d p = refl

  pub steps-go : (c : ℕ) (cs : List ℕ) (n b d : ℕ) (p : Pools) (code : Code) (x : Step) (k : ℕ) (q : Pools)
      → step_by (step_rule s c) s rec c n b d p ≡ stepped code x k q
      → steps s rec (c ∷ cs) n b d p ≡ onto code x (steps s rec cs (n + k) (b + length code) (d + k) q)
  unfolding steps
  steps-go c cs n b d p code x k q h = rw (h, steps)

  pub steps-fail : (c : ℕ) (cs : List ℕ) (n b d : ℕ) (p q : Pools) → step_by (step_rule s c) s rec c n b d p ≡ failed q
      → steps s rec (c ∷ cs) n b d p ≡ stopped q
  unfolding steps
  steps-fail c cs n b d p q h = rw (h, steps)

  pub chain-flat : (j b d : ℕ) (p : Pools) → flattens s (links max_levels s j) ≡ true
      → chain s rec j b d p ≡ chain_of s rec (root_of s (child j) p) j b d (steps s rec (links max_levels s j) 0 b d (root_pools s (child j) p))
  unfolding chain
  chain-flat j b d p h = rw (h, chain)

  pub chain-stays : (j b d : ℕ) (p : Pools) → flattens s (links max_levels s j) ≡ false → chain s rec j b d p ≡ residual_expr j d p
  unfolding chain
  chain-stays j b d p h = rw (h, chain)

module _ (s : List ℕ) (C : Right s) (rec : Rec) (L : LinksAll s rec) (X : Context) where
  index-links : (c n b d : ℕ) (p : Pools) → Link s c → StepLinks X b (index_step s rec c n b d p)
  unfolding index_step
  index-links c n b d p l = L.links X (operand_of s c) b d p (operand-valid s C c l)

  property-links : (c b : ℕ) (p : Pools) → StepLinks X b (property_step s c p)
  unfolding property_step
  property-links c b p = link-none

  method-links : (c n b d : ℕ) (p : Pools) → Link s c → StepLinks X b (method_step s rec c n b d p)
  unfolding method_after
  method-links c n b d p l = by (is_lowerable_method s (operand_of s c)) refl
    where
      by : (t : Bool) → is_lowerable_method s (operand_of s c) ≡ t → StepLinks X b (method_step s rec c n b d p)
      by true h =
          let x = operand_of s c in
          rw (method-lowers s rec c n b d p h)
          (operands-link s rec L X (count s x) (child x) b d p (children s C x (operand-valid s C c l)))
      by false h = rw (method-fails s rec c n b d p h) tt

  step-links : (r : StepRule) (c n b d : ℕ) (p : Pools) → Link s c → StepLinks X b (step_by r s rec c n b d p)
  unfolding step_by
  step-links index c n b d p l = index-links c n b d p l
  step-links property c n b d p l = property-links c b p
  step-links method c n b d p l = method-links c n b d p l
  step-links none c n b d p l = tt

  steps-link : (cs : List ℕ) (n b d : ℕ) (p : Pools) → All (Link s) cs → WalkLinks X b (steps s rec cs n b d p)
  steps-link [] n b d p l = rw (steps-none s rec n b d p) link-none
  steps-link (c ∷ cs) n b d p l =
      by (step_by (step_rule s c) s rec c n b d p) refl (λ n b d p. steps-link cs n b d p l.1)
    where
      by : (o : Stepped) → step_by (step_rule s c) s rec c n b d p ≡ o → ((n b d : ℕ) (p : Pools) → WalkLinks X b (steps s rec cs n b d p))
          → WalkLinks X b (steps s rec (c ∷ cs) n b d p)
      by (stepped code x k q) h more =
          let first = subst (StepLinks X b) h (step-links (step_rule s c) c n b d p l.0) in
          rw (steps-go s rec c cs n b d p code x k q h)
          (onto-links code x (steps s rec cs (n + k) (b + length code) (d + k) q) first (more (n + k) (b + length code) (d + k) q))
      by (failed q) h more = rw (steps-fail s rec c cs n b d p q h) tt

  root-links : (root : Root) (v b d : ℕ) (p : Pools) → Valid s v → Linked X b (root_code rec root v b d p).code
  unfolding root_code
  root-links (Local slot i) v b d p h = link-none
  root-links (Named i pos) v b d p h = link-none
  root-links (This pos) v b d p h = link-none
  root-links Temporary v b d p h = L.links X v b d p h

  chain-of-links : (root : Root) (j b d : ℕ) (w : Walked) → Valid s (child j) → WalkLinks X b w
      → Linked X b (chain_of s rec root j b d w).code
  unfolding chain_of
  chain-of-links root j b d (walked code xs n p) v g =
      let o = root_code rec root (child j) (b + length code) (d + n) p in
      let last = ins (Chain (chain_at root xs n o.pools)) (d + n + on_stack root) (position s j) in
      link (link g (root-links root (child j) (b + length code) (d + n) p v)) (link-one last refl)
  chain-of-links root j b d (stopped p) v g = link-residual j d p

  pub chain-links : (j b d : ℕ) (p : Pools) → Link s j → Linked X b (chain s rec j b d p).code
  chain-links j b d p l = by (flattens s (links max_levels s j)) refl
    where
      by : (t : Bool) → flattens s (links max_levels s j) ≡ t → Linked X b (chain s rec j b d p).code
      by true h =
          rw (chain-flat s rec j b d p h)
          (chain-of-links (root_of s (child j) p) j b d (steps s rec (links max_levels s j) 0 b d (root_pools s (child j) p))
          (child-valid s C j l.valid (omega arith))
          (steps-link (links max_levels s j) 0 b d (root_pools s (child j) p) (links-valid s C max_levels j l)))
      by false h = rw (chain-stays s rec j b d p h) (link-residual j d p)
