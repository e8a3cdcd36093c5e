-- A chain whose names stand in the pool stays what it is when names are added.
use Prim.Native.Nat.{ℕ, ◌+◌}
use mathlib.Core.Path.{◌≡◌, refl, ap, ap₂}
use mathlib.Core.Bool.{Bool, true, false}
use mathlib.Core.List.{List, [], ◌∷◌, ◌++◌}
use lib.Dec.{eqb}
use Rattle.sheet.specs.Limits.{max_depth}
use Rattle.sheet.specs.Node.{field_a, field_b, field_c, child}
use Rattle.sheet.specs.Namespace.{role}
use Rattle.lowering.specs.Kinds.{variable_kind}
use Rattle.lowering.specs.Pools.{Name}
use Rattle.lowering.specs.Flatten as flatten
use Rattle.lowering.specs.Flatten.{operand_of, StepRule, index, property, method, step_rule, links}
use Rattle.expr_chains.proofs.Grow.{Grows}
use Rattle.expr_chains.specs.Steps.{name_in, root_with, root_in, step_with, step_as, step_operands, steps_in, chain_root, chain_steps, chain_in}
use Rattle.expr_chains.specs.Steps.{chains_from, steps_from, link_count}
use Rattle.expr_chains.specs.Pooled.{All, StepStands, LinkStands, RootStands, Pooled}
use Rattle.expr_chains.proofs.NameLaws.{name-stays, stands-stays}

-- only a variable's root has a name
pub root-nameless : (s : List ℕ) (v i k : ℕ) → eqb (role s v) variable_kind ≡ false → root_with s v i ≡ root_with s v k
unfolding root_with
root-nameless s v i k h = rw (h, root_with)

module _ (s : List ℕ) {ns ms : List Name} (g : Grows ns ms) where
  root-stays : (v : ℕ) → RootStands s ns v → root_in s ms v ≡ root_in s ns v
  unfolding root_in
  root-stays v h = by (eqb (role s v) variable_kind) refl
    where
      by : (t : Bool) → eqb (role s v) variable_kind ≡ t → root_in s ms v ≡ root_in s ns v
      by true e = ap (root_with s v) (name-stays s (field_a s v) g (h e))
      by false e = root-nameless s v (name_in s ms (field_a s v)) (name_in s ns (field_a s v)) e

  step_stays : (r : StepRule) (c n : ℕ) → StepStands r s ns c → step_as r s ms c n ≡ step_as r s ns c n
  unfolding step_as step_with
  step_stays index c n h = refl
  step_stays property c n h =
      let x = operand_of s c in
      rw (name-stays s (field_a s x) g h.0, name-stays s (field_b s x) g h.1, name-stays s (field_c s x) g h.2)
  step_stays method c n h = rw (name-stays s (field_a s (operand_of s c)) g h.1)
  step_stays flatten.none c n h = absurd h

  steps-stay : (n : ℕ) (cs : List ℕ) → All (LinkStands s ns) cs → steps_in s ms n cs ≡ steps_in s ns n cs
  unfolding steps_in
  steps-stay n [] h = refl
  steps-stay n (c ∷ cs) h = ap₂ ◌∷◌ (step_stays (step_rule s c) c n h.0) (steps-stay (n + step_operands s c) cs h.1)

  step-stands : (r : StepRule) (c : ℕ) → StepStands r s ns c → StepStands r s ms c
  step-stands index c h = tt
  step-stands property c h =
      let x = operand_of s c in
      (stands-stays s (field_a s x) g h.0, stands-stays s (field_b s x) g h.1, stands-stays s (field_c s x) g h.2)
  step-stands method c h = (h.0, stands-stays s (field_a s (operand_of s c)) g h.1)
  step-stands flatten.none c h = h

  links-stand : (cs : List ℕ) → All (LinkStands s ns) cs → All (LinkStands s ms) cs
  links-stand [] h = tt
  links-stand (c ∷ cs) h = (step-stands (step_rule s c) c h.0, links-stand cs h.1)

  -- the chain of node j
  pooled-stays : {j : ℕ} → Pooled s ns j → Pooled s ms j
  pooled-stays {j} h = record {
    root = λ e. stands-stays s (field_a s (child j)) g (h.root e);
    steps = links-stand (links max_depth s j) h.steps;
  }

  chain-root-stays : {j : ℕ} → Pooled s ns j → chain_root s ms j ≡ chain_root s ns j
  unfolding chain_root
  chain-root-stays {j} h = root-stays (child j) h.root

  chain-steps-stay : {j : ℕ} → Pooled s ns j → chain_steps s ms j ≡ chain_steps s ns j
  unfolding chain_steps
  chain-steps-stay {j} h = steps-stay 0 (links max_depth s j) h.steps

  chain-stays : {j : ℕ} (first : ℕ) → Pooled s ns j → chain_in s ms first j ≡ chain_in s ns first j
  unfolding chain_in
  chain-stays first h = rw (chain-root-stays h)

  -- all chains of these nodes
  pub all-pooled : (js : List ℕ) → All (Pooled s ns) js → All (Pooled s ms) js
  all-pooled [] h = tt
  all-pooled (j ∷ js) h = (pooled-stays h.0, all-pooled js h.1)

  pub chains-stay : (first : ℕ) (js : List ℕ) → All (Pooled s ns) js → chains_from s ms first js ≡ chains_from s ns first js
  unfolding chains_from
  chains-stay first [] h = refl
  chains-stay first (j ∷ js) h = ap₂ ◌∷◌ (chain-stays first h.0) (chains-stay (first + link_count s j) js h.1)

  pub all-steps-stay : (js : List ℕ) → All (Pooled s ns) js → steps_from s ms js ≡ steps_from s ns js
  unfolding steps_from
  all-steps-stay [] h = refl
  all-steps-stay (j ∷ js) h = ap₂ ◌++◌ (chain-steps-stay h.0) (all-steps-stay js h.1)
