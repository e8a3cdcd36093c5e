-- Dot and Index: the steps' operands, the root if it is a value, and the chain instruction that takes them all off.
use Prim.Native.Nat.{ℕ, suc, ◌+◌}
use mathlib.Core.Path.{◌≡◌, refl, sym, ap, ◌∙◌, subst}
use mathlib.Core.Bool.{Bool, true, false}
use mathlib.Core.List.{List, [], ◌∷◌}
use lib.Dec.{eqb}
use lib.ListN.{length, length-append}
use native.Mathlib.Omega.{arith}
use native.Mathlib.Nat.{add-zero}
use Rattle.sheet.specs.Node.{count, position, child}
use Rattle.sheet.specs.Namespace.{role}
use Rattle.bytecode.specs.declared.Root.{Root}
use Rattle.bytecode.specs.declared.Root.TheVariants.{Local, Named, This, Temporary}
use Rattle.bytecode.specs.declared.Step.{Step}
use Rattle.bytecode.specs.declared.Chain as ChainRecord
use Rattle.bytecode.specs.declared.Op.TheVariants.{Chain}
use Rattle.lowering.specs.Limits.{max_levels}
use Rattle.lowering.specs.Kinds.{variable_kind}
use Rattle.lowering.specs.Code.{Code, ins}
use Rattle.lowering.specs.Pools.{Pools, emits, push_name, chain_at, push_chain}
use Rattle.lowering.specs.Out.{Rec}
use Rattle.lowering.specs.Flatten.{operand_of, StepRule, index, property, method, none, step_rule, links, flattens}
use Rattle.lowering.specs.Steps.{Stepped, stepped, failed, index_step, property_step, is_lowerable_method, method_after, method_step}
use Rattle.lowering.specs.Steps.{step_by, Walked, walked, stopped, onto, steps}
use Rattle.lowering.specs.Chain.{root_of, root_pools, on_stack, root_code, chain_of, chain}
use Rattle.lowering.proofs.Effect.{no_chain}
use Rattle.lowering.proofs.Typed.{Nothing}
use Rattle.lowering.proofs.Meets.{Grows, grows-refl, grows-trans, grows_at, Meets}
use Rattle.lowering.proofs.Lowers.{Lowers, Done, Straight, lowers-none, lowers-seq, lowers-one, lowers-to, lowers-more, meets_at}
use Rattle.lowering.proofs.ChainPool.{Holds, chain-grows, chain-holds}
use Rattle.lowering.proofs.SoundLeaf.{residual-done}
use Rattle.lowering.proofs.SoundOperands.{operands-done}

-- a step with k operands takes depth d to d + k; a failed one only adds chains
abbrev StepRight : List ChainRecord.Chain → ℕ → ℕ → Stepped → Type 0
StepRight x b d (stepped code st k q) = Lowers Nothing x b d (d + k) code q.chains
StepRight x b d (failed q) = Grows x q.chains

-- steps over depth a, with m operands in all
abbrev StepsRight : List ChainRecord.Chain → ℕ → ℕ → ℕ → Walked → Type 0
StepsRight x a b d (walked code xs m q) = Lowers Nothing x b d (a + m) code q.chains
StepsRight x a b d (stopped q) = Grows x q.chains

module _ (s : List ℕ) (rec : Rec) (M : Meets rec) where
  index-right : (c n b d : ℕ) (p : Pools) → StepRight p.chains b d (index_step s rec c n b d p)
  unfolding index_step
  index-right c n b d p = lowers-to (omega arith) (meets_at M (operand_of s c) b d p)

  property-right : (c b d : ℕ) (p : Pools) → StepRight p.chains b d (property_step s c p)
  unfolding property_step push_name
  property-right c b d p = lowers-to (sym (add-zero d)) lowers-none

  method-right : (c n b d : ℕ) (p : Pools) → StepRight p.chains b d (method_step s rec c n b d p)
  unfolding method_step method_after push_name
  method-right c n b d p = by (is_lowerable_method s (operand_of s c)) refl
    where
      by : (t : Bool) → is_lowerable_method s (operand_of s c) ≡ t → StepRight p.chains b d (method_step s rec c n b d p)
      by true h = rw (h, method_step) (operands-done s rec M (count s (operand_of s c)) (child (operand_of s c)) b d p)
      by false h = rw (h, method_step) (grows-refl p.chains)

  step-right : (r : StepRule) (c n b d : ℕ) (p : Pools) → StepRight p.chains b d (step_by r s rec c n b d p)
  unfolding step_by
  step-right index c n b d p = index-right c n b d p
  step-right property c n b d p = property-right c b d p
  step-right method c n b d p = method-right c n b d p
  step-right none c n b d p = grows-refl p.chains

-- a step before other steps
onto-right : (x : List ChainRecord.Chain) (a b d k : ℕ) (code : Code) (st : Step) (q : Pools) (w : Walked)
    → Lowers Nothing x b d (d + k) code q.chains → StepsRight q.chains a (b + length code) (d + k) w
    → StepsRight x a b d (onto code st w)
unfolding onto
onto-right x a b d k code st q (walked rest xs m r) g h = lowers-seq g h
onto-right x a b d k code st q (stopped r) g h = grows-trans g.grows h

module _ (s : List ℕ) (rec : Rec) (M : Meets rec) where
  steps-right : (a : ℕ) (cs : List ℕ) (n b d : ℕ) (p : Pools) → a + n ≡ d → StepsRight p.chains a b d (steps s rec cs n b d p)
  unfolding steps
  steps-right a [] n b d p h = lowers-to (sym h) lowers-none
  steps-right a (c ∷ cs) n b d p h =
      by (step_by (step_rule s c) s rec c n b d p) refl (step-right s rec M (step_rule s c) c n b d p)
      (λ k b' q. steps-right a cs (n + k) b' (d + k) q (omega arith))
    where
      by : (t : Stepped) → step_by (step_rule s c) s rec c n b d p ≡ t → StepRight p.chains b d (step_by (step_rule s c) s rec c n b d p)
          → ((k b' : ℕ) (q : Pools) → StepsRight q.chains a b' (d + k) (steps s rec cs (n + k) b' (d + k) q))
          → StepsRight p.chains a b d (steps s rec (c ∷ cs) n b d p)
      by (stepped code st k q) e g r =
          rw (e, steps) (onto-right p.chains a b d k code st q (steps s rec cs (n + k) (b + length code) (d + k) q) (rw e at g)
          (r k (b + length code) q))
      by (failed q) e g r = rw (e, steps) (rw e at g)

  root_code-done : (root : Root) (v b d : ℕ) (p : Pools) → Done p b d (d + on_stack root) (root_code rec root v b d p)
  unfolding root_code on_stack
  root_code-done (Local slot i) v b d p = lowers-to (sym (add-zero d)) lowers-none
  root_code-done (Named i pos) v b d p = lowers-to (sym (add-zero d)) lowers-none
  root_code-done (This pos) v b d p = lowers-to (sym (add-zero d)) lowers-none
  root_code-done Temporary v b d p = lowers-to (omega arith) (meets_at M v b d p)

-- a longer list of chains holds the chain too
holds-grows : {xs ys : List ChainRecord.Chain} {i n stack : ℕ} → Grows xs ys → Holds xs i n stack → Holds ys i n stack
holds-grows {xs} {ys} {i} {n} {stack} g h =
    let same = grows_at xs ys i no_chain g h.within in
    let l = ap length g.whole in
    record {
      within = omega (arith, length-append xs g.more);
      operands = ap (λ (c : ChainRecord.Chain). c.operands) same ∙ h.operands;
      root = ap (λ (c : ChainRecord.Chain). on_stack c.root) same ∙ h.root;
    }

-- the chain instruction takes the operands and the root off
chain-straight : (y : List ChainRecord.Chain) (i n stack d pos : ℕ) → Holds y i n stack
    → Straight y (suc d) (ins (Chain i) (d + n + stack) pos)
chain-straight y i n stack d pos h X A N q g end le =
    let k = holds-grows g h in
    omega arith

module _ (s : List ℕ) (rec : Rec) (M : Meets rec) where
  chain_of-done : (x : List ChainRecord.Chain) (root : Root) (j b d : ℕ) (w : Walked) → StepsRight x d b d w
      → Lowers Nothing x b d (suc d) (chain_of s rec root j b d w).code (chain_of s rec root j b d w).pools.chains
  unfolding chain_of emits
  chain_of-done x root j b d (walked code xs n p) h =
      let o = root_code rec root (child j) (b + length code) (d + n) p in
      let i = chain_at root xs n o.pools in
      let y = (push_chain root xs n o.pools).chains in
      let last = ins (Chain i) (d + n + on_stack root) (position s j) in
      let all = lowers-more (lowers-seq h (root_code-done s rec M root (child j) (b + length code) (d + n) p))
      (chain-grows root xs n o.pools) in
      lowers-seq all (lowers-one last refl (chain-straight y i n (on_stack root) d (position s j) (chain-holds root xs n o.pools)))
  chain_of-done x root j b d (stopped p) h =
      let r = residual-done j b d p in
      record { sound = r.sound; grows = grows-trans h r.grows }

  root_pools-chains : (v : ℕ) (p : Pools) → (root_pools s v p).chains ≡ p.chains
  unfolding root_pools push_name
  root_pools-chains v p = by (eqb (role s v) variable_kind) refl
    where
      by : (t : Bool) → eqb (role s v) variable_kind ≡ t → (root_pools s v p).chains ≡ p.chains
      by true h = rw (h, root_pools)
      by false h = rw (h, root_pools)

  flat-done : (j b d : ℕ) (p : Pools) (ls : List ℕ)
      → Done p b d (suc d) (chain_of s rec (root_of s (child j) p) j b d (steps s rec ls 0 b d (root_pools s (child j) p)))
  flat-done j b d p ls =
      chain_of-done p.chains (root_of s (child j) p) j b d (steps s rec ls 0 b d (root_pools s (child j) p))
      (subst (λ (x : List ChainRecord.Chain). StepsRight x d b d (steps s rec ls 0 b d (root_pools s (child j) p)))
      (root_pools-chains (child j) p) (steps-right s rec M d ls 0 b d (root_pools s (child j) p) (add-zero d)))

  pub chain-done : (j b d : ℕ) (p : Pools) → Done p b d (suc d) (chain s rec j b d p)
  unfolding chain
  chain-done j b d p = by (flattens s (links max_levels s j)) refl
    where
      by : (t : Bool) → flattens s (links max_levels s j) ≡ t → Done p b d (suc d) (chain s rec j b d p)
      by true h = rw (h, chain) (flat-done j b d p (links max_levels s j))
      by false h = rw (h, chain) (residual-done j b d p)
