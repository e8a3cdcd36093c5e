-- Two lowerings of nodes that agree on every node with P lower a chain alike, if its root and what its steps are taken with have P.
use Prim.Native.Nat.{ℕ, ◌+◌}
use mathlib.Core.Path.{◌≡◌, refl, ap, ◌∙◌}
use mathlib.Core.Bool.{true, false}
use mathlib.Core.List.{List, [], ◌∷◌, ◌++◌}
use lib.ListN.{length}
use Rattle.sheet.specs.Node.{count, position, child}
use Rattle.sheet.specs.Start.{start_of}
use Rattle.bytecode.specs.declared.Root.{Root}
use Rattle.bytecode.specs.declared.Root.TheVariants.{Local, Named, This, Temporary}
use Rattle.bytecode.specs.declared.Step.TheVariants.{Index}
use Rattle.bytecode.specs.declared.Op.TheVariants.{Chain}
use Rattle.lowering.specs.Limits.{max_levels}
use Rattle.lowering.specs.Code.{Ins, ins}
use Rattle.lowering.specs.Pools.{Pools, emits, chain_at, push_chain}
use Rattle.lowering.specs.Out.{Out, out, Rec, residual_expr}
use Rattle.lowering.specs.Flatten.{negated, operand_of, links, StepRule, index, property, method, none, step_rule, flattens}
use Rattle.lowering.specs.Steps.{Stepped, stepped, failed, index_step, method_step, method_after, is_lowerable_method, step_by, Walked}
use Rattle.lowering.specs.Steps.{walked, stopped, onto, steps}
use Rattle.lowering.specs.Chain.{root_of, root_pools, on_stack, root_code, chain_of, chain}
use Rattle.lowering.specs.All.{All}
use Rattle.lowering.proofs.LevelsSame.{Each, Agree, operands_same}

-- what the step of link c is taken with, and the children of that, have P
pub record Taken (s : List ℕ) (P : ℕ → Type 0) (c : ℕ) : Type 0 where
  pub here : P (operand_of s c)
  pub args : Each s P (count s (operand_of s c)) (child (operand_of s c))

module _ (s : List ℕ) {P : ℕ → Type 0} {rec rec' : Rec} (A : Agree P rec rec') where
  step_same : (r : StepRule) (c n b d : ℕ) (p : Pools) → Taken s P c → step_by r s rec c n b d p ≡ step_by r s rec' c n b d p
  unfolding step_by index_step method_step
  step_same index c n b d p k =
      let x = operand_of s c in
      ap (λ (o : Out). stepped o.code (Index n (negated s c) (start_of s x) (position s c)) 1 o.pools) (A.at x b d p k.here)
  step_same property c n b d p k = refl
  step_same method c n b d p k =
      let x = operand_of s c in
      ap (λ (o : Out). elim (is_lowerable_method s x) [ true ↦ method_after s c x n o | false ↦ failed p ])
      (operands_same s A (count s x) (child x) b d p k.args)
  step_same none c n b d p k = refl

  steps-same : (cs : List ℕ) (n b d : ℕ) (p : Pools) → All (Taken s P) cs → steps s rec cs n b d p ≡ steps s rec' cs n b d p
  unfolding steps
  steps-same [] n b d p k = refl
  steps-same (c ∷ cs) n b d p k =
      ap (λ (t : Stepped). after rec t) (step_same (step_rule s c) c n b d p k.0)
      ∙ go (step_by (step_rule s c) s rec' c n b d p) (λ m e f q. steps-same cs m e f q k.1)
    where
      after : Rec → Stepped → Walked
      after rec t = elim t [ stepped code x m q ↦ onto code x (steps s rec cs (n + m) (b + length code) (d + m) q) | failed q ↦ stopped q ]

      go : (t : Stepped) → ((m e f : ℕ) (q : Pools) → steps s rec cs m e f q ≡ steps s rec' cs m e f q) → after rec t ≡ after rec' t
      go (stepped code x m q) h = ap (onto code x) (h (n + m) (b + length code) (d + m) q)
      go (failed q) h = refl

  root-same : (root : Root) (v b d : ℕ) (p : Pools) → P v → root_code rec root v b d p ≡ root_code rec' root v b d p
  unfolding root_code
  root-same (Local slot i) v b d p h = refl
  root-same (Named i pos) v b d p h = refl
  root-same (This pos) v b d p h = refl
  root-same Temporary v b d p h = A.at v b d p h

  chain-of-same : (root : Root) (j b d : ℕ) (w : Walked) → P (child j) → chain_of s rec root j b d w ≡ chain_of s rec' root j b d w
  unfolding chain_of
  chain-of-same root j b d (walked code xs n p) h =
      let last : Out → Ins = λ o. ins (Chain (chain_at root xs n o.pools)) (d + n + on_stack root) (position s j) in
      ap (λ (o : Out). out (code ++ o.code ++ (last o ∷ [])) (emits 1 (push_chain root xs n o.pools)))
      (root-same root (child j) (b + length code) (d + n) p h)
  chain-of-same root j b d (stopped p) h = refl

  pub chain_same : (j b d : ℕ) (p : Pools) → P (child j) → All (Taken s P) (links max_levels s j)
      → chain s rec j b d p ≡ chain s rec' j b d p
  unfolding chain
  chain_same j b d p h k =
      let ls = links max_levels s j in
      let root = root_of s (child j) p in
      let pools = root_pools s (child j) p in
      let or_kept : Out → Out = λ o. elim (flattens s ls) [ true ↦ o | false ↦ residual_expr j d p ] in
      ap (λ (w : Walked). or_kept (chain_of s rec root j b d w)) (steps-same ls 0 b d pools k)
      ∙ ap or_kept (chain-of-same root j b d (steps s rec' ls 0 b d pools) h)
