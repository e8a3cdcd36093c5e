-- What the lowering's walk along a chain gives: the root, the steps and the operands of the chain's node over the names that it leaves,
-- and over every later pool of names.
use Prim.Native.Nat.{ℕ, zero, suc, ◌+◌}
use mathlib.Core.Path.{◌≡◌, refl, ap, ap₂, subst, ◌∙◌}
use mathlib.Core.Bool.{Bool, true, false}
use mathlib.Core.List.{List, [], ◌∷◌}
use native.Mathlib.Omega.{arith}
use native.Mathlib.Nat.{zero-add}
use lib.Dec.{eqb}
use lib.ListN.{length}
use Rattle.lowering.proofs.LinkedChain.{method-lowers, method-fails, steps-go, steps-fail, method-args}
use Rattle.sheet.specs.Limits.{max_depth}
use Rattle.sheet.specs.Node.{count, field_a, field_b, field_c, child, next}
use Rattle.sheet.specs.Namespace.{role}
use Rattle.bytecode.specs.declared.Root.{Root}
use Rattle.bytecode.specs.declared.Root.TheVariants.{Local, Named, This, Temporary}
use Rattle.bytecode.specs.declared.Step.{Step}
use Rattle.lowering.specs.Kinds.{variable_kind}
use Rattle.lowering.specs.Code.{Code}
use Rattle.lowering.specs.Pools.{Pools, Name, name, name_at, push_name}
use Rattle.lowering.specs.Out.{Rec}
use Rattle.lowering.specs.Operands.{operands}
use Rattle.lowering.specs.Flatten as flatten
use Rattle.lowering.specs.Flatten.{operand_of, StepRule, index, property, method, step_rule, links}
use Rattle.lowering.specs.Steps.{Stepped, stepped, failed, index_step, property_step, is_lowerable_method, method_after, method_step, step_by}
use Rattle.lowering.specs.Steps.{Walked, walked, stopped, onto, steps}
use Rattle.lowering.specs.Chain.{variable_root, root_of, root_pools, root_code}
use Rattle.expr_chains.proofs.Grow.{Grows, grows-refl, grows-trans}
use Rattle.expr_chains.specs.Steps.{name_in, root_with, root_in, step_with, step_as, width_by, step_operands, steps_in, operands_of, chain_root}
use Rattle.expr_chains.specs.Steps.{chain_steps, chain_operands}
use Rattle.expr_chains.specs.Pooled.{All, StepStands, LinkStands, RootStands, Pooled}
use Rattle.expr_chains.proofs.NameLaws.{push-grows, push-stands, push_at}
use Rattle.expr_chains.proofs.StayLaws.{root-nameless}

-- the lowering of a child adds names only
pub record NamesGrow (rec : Rec) : Type 0 where
  pub grows : (j b d : ℕ) (p : Pools) → Grows p.names (rec j b d p).pools.names

-- one step x with k operands, of link c with n operands before it
pub record StepGives (r : StepRule) (s : List ℕ) (ns : List Name) (c n : ℕ) (x : Step) (k : ℕ) : Type 0 where
  pub step : x ≡ step_as r s ns c n
  pub width : k ≡ width_by r s c
  pub stands : StepStands r s ns c

abbrev StepRight : StepRule → List ℕ → ℕ → ℕ → Pools → Stepped → Type 0
StepRight r s c n p (stepped code x k q) =
    Grows p.names q.names × ((ns : List Name) → Grows q.names ns → StepGives r s ns c n x k)
StepRight r s c n p (failed q) = Grows p.names q.names

-- the steps xs of these links, with n operands before them and m after
pub record WalkGives (s : List ℕ) (ns : List Name) (cs : List ℕ) (n : ℕ) (xs : List Step) (m : ℕ) : Type 0 where
  pub steps : xs ≡ steps_in s ns n cs
  pub operands : m ≡ n + operands_of s cs
  pub stand : All (LinkStands s ns) cs

abbrev WalkRight : List ℕ → List ℕ → ℕ → Pools → Walked → Type 0
WalkRight s cs n p (walked code xs m q) =
    Grows p.names q.names × ((ns : List Name) → Grows q.names ns → WalkGives s ns cs n xs m)
WalkRight s cs n p (stopped q) = Grows p.names q.names

module _ (s : List ℕ) (rec : Rec) (G : NamesGrow rec) where
  operands-grow : (n j b d : ℕ) (p : Pools) → Grows p.names (operands s rec n j b d p).pools.names
  unfolding operands
  operands-grow zero j b d p = grows-refl p.names
  operands-grow (suc n) j b d p =
      let o = rec j b d p in
      grows-trans (G.grows j b d p) (operands-grow n (next s j) (b + length o.code) (suc d) o.pools)

  index-right : (c n b d : ℕ) (p : Pools) → StepRight index s c n p (index_step s rec c n b d p)
  unfolding index_step step_as step_with width_by
  index-right c n b d p =
      (G.grows (operand_of s c) b d p, λ ns g. record { step = refl; width = refl; stands = tt })

  property-right : (c n : ℕ) (p : Pools) → StepRight property s c n p (property_step s c p)
  unfolding property_step step_as step_with width_by
  property-right c n p =
      let x = operand_of s c in
      let p₁ = push_name s (name (field_a s x) 0) p in
      let p₂ = push_name s (name (field_b s x) 0) p₁ in
      let p₃ = push_name s (name (field_c s x) 0) p₂ in
      let g₁ = push-grows s (name (field_a s x) 0) p in
      let g₂ = push-grows s (name (field_b s x) 0) p₁ in
      let g₃ = push-grows s (name (field_c s x) 0) p₂ in (
        grows-trans g₁ (grows-trans g₂ g₃),
        λ ns g.
            let h₂ = grows-trans g₃ g in
            let h₁ = grows-trans g₂ h₂ in
            record {
              step = rw (push_at s (field_a s x) p h₁, push_at s (field_b s x) p₁ h₂, push_at s (field_c s x) p₂ g);
              width = refl;
              stands = (push-stands s (field_a s x) p h₁, push-stands s (field_b s x) p₁ h₂, push-stands s (field_c s x) p₂ g);
            },
      )

  method-right : (c n b d : ℕ) (p : Pools) → StepRight method s c n p (method_step s rec c n b d p)
  unfolding method_after step_as step_with width_by
  method-right c n b d p = by (is_lowerable_method s (operand_of s c)) refl
    where
      by : (t : Bool) → is_lowerable_method s (operand_of s c) ≡ t → StepRight method s c n p (method_step s rec c n b d p)
      by true h =
          let x = operand_of s c in
          let o = operands s rec (count s x) (child x) b d p in
          let few = method-args s x h in
          rw (method-lowers s rec c n b d p h) (
            grows-trans (operands-grow (count s x) (child x) b d p) (push-grows s (name (field_a s x) 0) o.pools),
            λ ns g. record {
              step = rw (push_at s (field_a s x) o.pools g);
              width = omega arith;
              stands = (h, push-stands s (field_a s x) o.pools g);
            },
          )
      by false h = rw (method-fails s rec c n b d p h) (grows-refl p.names)

  step-right : (r : StepRule) (c n b d : ℕ) (p : Pools) → StepRight r s c n p (step_by r s rec c n b d p)
  unfolding step_by
  step-right index c n b d p = index-right c n b d p
  step-right property c n b d p = property-right c n p
  step-right method c n b d p = method-right c n b d p
  step-right flatten.none c n b d p = grows-refl p.names

  onto-right : (c : ℕ) (cs : List ℕ) (n : ℕ) (p : Pools) (code : Code) (x : Step) (k : ℕ) (q : Pools) (w : Walked)
      → StepRight (step_rule s c) s c n p (stepped code x k q) → WalkRight s cs (n + k) q w → WalkRight s (c ∷ cs) n p (onto code x w)
  unfolding onto steps_in operands_of step_operands
  onto-right c cs n p code x k q (walked rest xs m q') one more = (
    grows-trans one.0 more.0,
    λ ns g.
        let o = one.1 ns (grows-trans more.0 g) in
        let r = more.1 ns g in
        let wide = o.width in
        record {
          steps = ap₂ ◌∷◌ o.step (r.steps ∙ ap (λ (l : ℕ). steps_in s ns (n + l) cs) wide);
          operands = omega (arith, r.operands);
          stand = (o.stands, r.stand);
        },
  )
  onto-right c cs n p code x k q (stopped q') one more = grows-trans one.0 more

  steps-right : (cs : List ℕ) (n b d : ℕ) (p : Pools) → WalkRight s cs n p (steps s rec cs n b d p)
  unfolding steps steps_in operands_of
  steps-right [] n b d p =
      (grows-refl p.names, λ ns g. record { steps = refl; operands = omega arith; stand = tt })
  steps-right (c ∷ cs) n b d p =
      by (step_by (step_rule s c) s rec c n b d p) refl (λ n b d p. steps-right cs n b d p)
    where
      by : (o : Stepped) → step_by (step_rule s c) s rec c n b d p ≡ o
          → ((n b d : ℕ) (p : Pools) → WalkRight s cs n p (steps s rec cs n b d p))
          → WalkRight s (c ∷ cs) n p (steps s rec (c ∷ cs) n b d p)
      by (stepped code x k q) h more =
          let one = subst (StepRight (step_rule s c) s c n p) h (step-right (step_rule s c) c n b d p) in
          rw (steps-go s rec c cs n b d p code x k q h)
          (onto-right c cs n p code x k q (steps s rec cs (n + k) (b + length code) (d + k) q) one
          (more (n + k) (b + length code) (d + k) q))
      by (failed q) h more =
          let one = subst (StepRight (step_rule s c) s c n p) h (step-right (step_rule s c) c n b d p) in
          rw (steps-fail s rec c cs n b d p q h) one

-- the root: its name is looked for before it is pooled, and found there ever after
module _ (s : List ℕ) where
  pub root-pools-on : (v : ℕ) (p : Pools) → eqb (role s v) variable_kind ≡ true → root_pools s v p ≡ push_name s (name (field_a s v) 0) p
  unfolding root_pools
  root-pools-on v p h = rw (h, root_pools)

  pub root-pools-off : (v : ℕ) (p : Pools) → eqb (role s v) variable_kind ≡ false → root_pools s v p ≡ p
  unfolding root_pools
  root-pools-off v p h = rw (h, root_pools)

  root_stands : {ns : List Name} (v : ℕ) (p : Pools) → Grows (root_pools s v p).names ns → RootStands s ns v
  root_stands {ns} v p g h =
      push-stands s (field_a s v) p (subst (λ (q : Pools). Grows q.names ns) (root-pools-on v p h) g)

  root-by : (v : ℕ) (p : Pools) → root_of s v p ≡ root_with s v (name_at s (name (field_a s v) 0) p)
  unfolding root_of variable_root root_with
  root-by v p = refl

  root-right : {ns : List Name} (v : ℕ) (p : Pools) → Grows (root_pools s v p).names ns → root_of s v p ≡ root_in s ns v
  unfolding root_in
  root-right {ns} v p g = by (eqb (role s v) variable_kind) refl
    where
      by : (t : Bool) → eqb (role s v) variable_kind ≡ t → root_of s v p ≡ root_in s ns v
      by true h =
          let named = subst (λ (q : Pools). Grows q.names ns) (root-pools-on v p h) g in
          root-by v p ∙ ap (root_with s v) (push_at s (field_a s v) p named)
      by false h =
          root-by v p ∙ root-nameless s v (name_at s (name (field_a s v) 0) p) (name_in s ns (field_a s v)) h

-- a root r, steps xs and n operands that are those of node j
pub record ChainGives (s : List ℕ) (ns : List Name) (j : ℕ) (r : Root) (xs : List Step) (n : ℕ) : Type 0 where
  pub root : r ≡ chain_root s ns j
  pub steps : xs ≡ chain_steps s ns j
  pub operands : n ≡ chain_operands s j
  pub pooled : Pooled s ns j

module _ (s : List ℕ) (rec : Rec) (G : NamesGrow rec) (j b d : ℕ) (p : Pools) where
  -- the walk along the chain of node j, as the lowering starts it
  abbrev pub walk_of : Walked
  walk_of = steps s rec (links max_depth s j) 0 b d (root_pools s (child j) p)

  walk-right : WalkRight s (links max_depth s j) 0 (root_pools s (child j) p) walk_of
  walk-right = steps-right s rec G (links max_depth s j) 0 b d (root_pools s (child j) p)

  pub walk-gives : (code : Code) (xs : List Step) (n : ℕ) (q : Pools) → walk_of ≡ walked code xs n q → (ns : List Name) → Grows q.names ns
      → ChainGives s ns j (root_of s (child j) p) xs n
  unfolding chain_root chain_steps chain_operands
  walk-gives code xs n q e ns g =
      let w = subst (WalkRight s (links max_depth s j) 0 (root_pools s (child j) p)) e walk-right in
      let r = w.1 ns g in
      let named = grows-trans w.0 g in
      record {
        root = root-right s (child j) p named;
        steps = r.steps;
        operands = r.operands ∙ zero-add (operands_of s (links max_depth s j));
        pooled = record { root = root_stands s (child j) p named; steps = r.stand };
      }

-- a root off the stack is lowered after the steps
module _ (rec : Rec) (G : NamesGrow rec) where
  pub root-code-grows : (r : Root) (v b d : ℕ) (q : Pools) → Grows q.names (root_code rec r v b d q).pools.names
  unfolding root_code
  root-code-grows (Local slot i) v b d q = grows-refl q.names
  root-code-grows (Named i pos) v b d q = grows-refl q.names
  root-code-grows (This pos) v b d q = grows-refl q.names
  root-code-grows Temporary v b d q = G.grows v b d q
