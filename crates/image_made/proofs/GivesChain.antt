-- Dot and Index give good pools and instructions that name what is there; a chain's steps have their operands in it.
use Prim.Native.Nat.{ℕ, zero, suc, ◌+◌, ◌*◌, ◌≤◌, ◌<◌}
use mathlib.Core.Path.{◌≡◌, refl}
use mathlib.Core.Bool as Truth
use mathlib.Core.Bool.{true, false}
use mathlib.Core.Option.{Option, none, some}
use mathlib.Core.List.{List, [], ◌∷◌}
use native.Mathlib.Omega.{arith}
use borrow.Author.Tests.{eqb-true}
use lib.Dec.{eqb}
use lib.ListN.{length}
use Rattle.sheet.specs.Limits.{max_depth}
use Rattle.sheet.specs.Sections.{text_count}
use Rattle.sheet.specs.Node.{kind, field_a, field_b, field_c, position, count, child}
use Rattle.sheet.specs.Text.{text}
use Rattle.sheet.specs.Namespace.{role}
use Rattle.sheet.proofs.NamespaceLaws.{role-kind}
use Rattle.bytecode.specs.declared.Root.{Root}
use Rattle.bytecode.specs.declared.Root.TheVariants as Roots
use Rattle.bytecode.specs.declared.Step.{Step}
use Rattle.bytecode.specs.declared.Step.TheVariants.{Index, Property, Method}
use Rattle.bytecode.specs.declared.Op.TheVariants as Ops
use Rattle.lowering.specs.Limits.{max_args}
use Rattle.lowering.specs.Code.{Code, ins}
use Rattle.lowering.specs.Pools.{Pools, name, push_name, chain_at}
use Rattle.lowering.specs.Out.{Out, Rec}
use Rattle.lowering.specs.Operands.{operands}
use Rattle.lowering.specs.Flatten.{StepRule, rest_of, goes_on, operand_of, links, step_rule, flattens}
use Rattle.lowering.specs.Kinds.{variable_kind, this_kind}
use Rattle.lowering.specs.Slots.{resolve}
use Rattle.lowering.specs.Chain.{variable_root, root_of, root_pools, on_stack, root_code, chain_of, chain}
use Rattle.lowering.specs.Steps.{Stepped, stepped, failed, index_step, property_step, is_lowerable_method, method_after, method_step, step_by}
use Rattle.lowering.specs.Steps.{Walked, walked, stopped, onto, steps}
use Rattle.lowering.specs.Nodes.{Valid, Row}
use Rattle.lowering.proofs.ChainPool.{chain-holds}
use Rattle.lowering.proofs.LinkedChain.{chain-flat, chain-stays, method-args}
use Rattle.image_made.proofs.Listed.{NameOk, RootOk, StepOk, StepIn, AllIn, PoolsOk}
use Rattle.image_made.proofs.Gives.{more-trans, root-more, step-more, steps-more, Gives, GivesOut, GivesAll, gives_none, gives-seq}
use Rattle.image_made.proofs.Gives.{gives-behind, gives-ins}
use Rattle.image_made.proofs.GivesPools.{bare-name, name-pushed, name-there, chain-pushed}
use Rattle.image_made.proofs.GivesLeaf.{slot-there, residual-gives}
use Rattle.image_made.proofs.GivesBranch.{operands-give}

-- what the check says of node x, which a link's step of this rule is taken with
abbrev pub StepFacts : List ℕ → ℕ → StepRule → Type 0
StepFacts s x StepRule.index = Valid s x
StepFacts s x StepRule.property = (field_a s x < text_count s) × (field_b s x < text_count s) × (field_c s x < text_count s)
StepFacts s x StepRule.method = (field_a s x < text_count s) × Row s (count s x) (child x)
StepFacts s x StepRule.none = Prim.Unit {0}

-- the same of link c
abbrev pub LinkFacts : List ℕ → ℕ → Type 0
LinkFacts s c = StepFacts s (operand_of s c) (step_rule s c)

-- more operands do no harm
step-in-more : (n m : ℕ) → n ≤ m → (t : Step) → StepIn n t → StepIn m t
step-in-more n m h (Index operand flags pos bracket) g = omega arith
step-in-more n m h (Property i getter setter flags pos) g = tt
step-in-more n m h (Method i argc operand flags pos) g = omega arith

-- one step with n operands before it, and all steps
record StepGives (s : List ℕ) (T : ℕ) (p : Pools) (n : ℕ) (code : Code) (x : Step) (k : ℕ) (q : Pools) : Type 0 where
  gives : Gives s T p code q
  right : StepOk (length q.names) x
  inside : StepIn (n + k) x
  few : k ≤ max_args

abbrev SteppedOk : List ℕ → ℕ → Pools → ℕ → Stepped → Type 0
SteppedOk s T p n (stepped code x k q) = StepGives s T p n code x k q
SteppedOk s T p n (failed q) = Gives s T p [] q

-- m operands in the end, of at most `left` links
record WalkGives (s : List ℕ) (T : ℕ) (p : Pools) (n left : ℕ) (code : Code) (xs : List Step) (m : ℕ) (q : Pools) : Type 0 where
  gives : Gives s T p code q
  right : AllIn (StepOk (length q.names)) xs
  inside : AllIn (StepIn m) xs
  least : n ≤ m
  few : m ≤ n + 255 * left

abbrev WalkedOk : List ℕ → ℕ → Pools → ℕ → ℕ → Walked → Type 0
WalkedOk s T p n left (walked code xs m q) = WalkGives s T p n left code xs m q
WalkedOk s T p n left (stopped q) = Gives s T p [] q

-- a step in front of the others
onto-ok : (s : List ℕ) (T : ℕ) (p : Pools) (n left : ℕ) (code : Code) (x : Step) (k : ℕ) (q : Pools) → StepGives s T p n code x k q
    → (v : Walked) → WalkedOk s T q (n + k) left v → WalkedOk s T p n (suc left) (onto code x v)
unfolding onto
onto-ok s T p n left code x k q g (walked rest xs m r) h = record {
  gives = gives-seq g.gives h.gives;
  right = (step-more (length q.names) (length r.names) h.gives.more.names x g.right, h.right);
  inside = (step-in-more (n + k) m h.least x g.inside, h.inside);
  least = omega (arith, h.least);
  few = omega (arith, h.few, g.few);
}
onto-ok s T p n left code x k q g (stopped r) h = record { good = h.good; more = more-trans g.gives.more h.more; code = tt }

module _ (s : List ℕ) (T : ℕ) (rec : Rec) (L : GivesAll s T rec) where
  -- the step of a link: Index, Property, method
  index_ok : (c n b d : ℕ) (p : Pools) → Valid s (operand_of s c) → PoolsOk s p → SteppedOk s T p n (index_step s rec c n b d p)
  unfolding index_step
  index_ok c n b d p v G =
      record { gives = L.gives (operand_of s c) b d p v G; right = omega arith; inside = omega arith; few = omega arith }

  property-ok : (c n : ℕ) (p : Pools) → StepFacts s (operand_of s c) StepRule.property → PoolsOk s p → SteppedOk s T p n (property_step s c p)
  unfolding property_step
  property-ok c n p f G =
      let x = operand_of s c in
      let n₁ = name (field_a s x) 0 in
      let n₂ = name (field_b s x) 0 in
      let n₃ = name (field_c s x) 0 in
      let p₁ = push_name s n₁ p in
      let p₂ = push_name s n₂ p₁ in
      let g₁ = name-pushed s T p G n₁ (bare-name s f.0) in
      let g₂ = name-pushed s T p₁ g₁.good n₂ (bare-name s f.1) in
      let g₃ = name-pushed s T p₂ g₂.good n₃ (bare-name s f.2) in
      let a₁ = name-there s T p G n₁ (bare-name s f.0) in
      let a₂ = name-there s T p₁ g₁.good n₂ (bare-name s f.1) in
      let a₃ = name-there s T p₂ g₂.good n₃ (bare-name s f.2) in
      record {
        gives = gives-behind (gives-behind g₁ g₂) g₃;
        right = (omega (arith, a₁, g₂.more.names, g₃.more.names), omega (arith, a₂, g₃.more.names), a₃, omega arith);
        inside = tt;
        few = omega arith;
      }

  -- the method behind its arguments
  after-ok : (c n : ℕ) (p : Pools) (o : Out) → field_a s (operand_of s c) < text_count s → count s (operand_of s c) ≤ max_args → GivesOut s T p o
      → SteppedOk s T p n (method_after s c (operand_of s c) n o)
  unfolding method_after
  after-ok c n p o f h g =
      let m = name (field_a s (operand_of s c)) 0 in
      record {
        gives = gives-behind g (name-pushed s T o.pools g.good m (bare-name s f));
        right = (name-there s T o.pools g.good m (bare-name s f), h, omega arith);
        inside = omega arith;
        few = h;
      }

  method-ok : (c n b d : ℕ) (p : Pools) → StepFacts s (operand_of s c) StepRule.method → PoolsOk s p
      → SteppedOk s T p n (method_step s rec c n b d p)
  unfolding method_step
  method-ok c n b d p f G = by (is_lowerable_method s (operand_of s c)) refl
    where
      by : (t : Truth.Bool) → is_lowerable_method s (operand_of s c) ≡ t → SteppedOk s T p n (method_step s rec c n b d p)
      by true e =
          let x = operand_of s c in
          let g = operands-give s T rec L (count s x) (child x) b d p f.1 G in
          rw (e, method_step) (after-ok c n p (operands s rec (count s x) (child x) b d p) f.0 (method-args s x e) g)
      by false e = rw (e, method_step) (gives_none G)

  -- by the rule of the step
  step_ok : (c n b d : ℕ) (p : Pools) (r : StepRule) → StepFacts s (operand_of s c) r → PoolsOk s p
      → SteppedOk s T p n (step_by r s rec c n b d p)
  unfolding step_by
  step_ok c n b d p StepRule.index F G = index_ok c n b d p F G
  step_ok c n b d p StepRule.property F G = property-ok c n p F G
  step_ok c n b d p StepRule.method F G = method-ok c n b d p F G
  step_ok c n b d p StepRule.none F G = gives_none G

  -- the step of a link, then the others
  go_on : (c : ℕ) (cs : List ℕ) (n b d : ℕ) (p : Pools) (t : Stepped) → SteppedOk s T p n t
      → ((k b d : ℕ) (q : Pools) → PoolsOk s q → WalkedOk s T q (n + k) (length cs) (steps s rec cs (n + k) b d q))
      → WalkedOk s T p n (suc (length cs))
      (elim t [ stepped code x k q ↦ onto code x (steps s rec cs (n + k) (b + length code) (d + k) q) | failed q ↦ stopped q ])
  go_on c cs n b d p (stepped code x k q) g more =
      let rest = steps s rec cs (n + k) (b + length code) (d + k) q in
      onto-ok s T p n (length cs) code x k q g rest (more k (b + length code) (d + k) q g.gives.good)
  go_on c cs n b d p (failed q) g more = g

  -- all links
  steps-ok : (cs : List ℕ) (n b d : ℕ) (p : Pools) → AllIn (LinkFacts s) cs → PoolsOk s p
      → WalkedOk s T p n (length cs) (steps s rec cs n b d p)
  unfolding steps
  steps-ok [] n b d p F G = record { gives = gives_none G; right = tt; inside = tt; least = omega arith; few = omega arith }
  steps-ok (c ∷ cs) n b d p F G =
      go_on c cs n b d p (step_by (step_rule s c) s rec c n b d p) (step_ok c n b d p (step_rule s c) F.0 G)
      (λ k b' d' q H. steps-ok cs (n + k) b' d' q F.1 H)

-- what the check says of a chain
pub record ChainFacts (s : List ℕ) (j : ℕ) : Type 0 where
  pub valid : Valid s j
  pub base : Valid s (child j)
  pub named : kind s (child j) ≡ variable_kind → field_a s (child j) < text_count s
  pub links : AllIn (LinkFacts s) (links max_depth s j)

-- a chain has at most as many links as the depth
links-few : (n : ℕ) (s : List ℕ) (c : ℕ) → length (links n s c) ≤ n
unfolding links
links-few zero s c = omega arith
links-few (suc n) s c = by (links-few n s (rest_of s c)) (goes_on s c) refl
  where
    by : length (links n s (rest_of s c)) ≤ n → (t : Truth.Bool) → goes_on s c ≡ t → length (links (suc n) s c) ≤ suc n
    by h true e = rw (e, links) (omega arith)
    by h false e = rw (e, links) (omega arith)

module _ (s : List ℕ) (T : ℕ) (rec : Rec) (L : GivesAll s T rec) (j : ℕ) (F : ChainFacts s j) where
  -- the pools with the root's name, and the root
  abbrev RootReady : Pools → Type 0
  RootReady p = Gives s T p [] (root_pools s (child j) p) × RootOk s (length (root_pools s (child j) p).names) (root_of s (child j) p)

  name-ok : eqb (role s (child j)) variable_kind ≡ true → NameOk s (name (field_a s (child j)) 0)
  name-ok e =
      let k = role-kind s (child j) (eqb-true (role s (child j)) variable_kind e) (omega arith) in
      bare-name s (F.named k)

  -- the root of the node
  root-ready : (p : Pools) → PoolsOk s p → RootReady p
  unfolding root_pools root_of variable_root
  root-ready p G =
      let x = child j in
      by (eqb (role s x) variable_kind) (eqb (role s x) this_kind) (resolve s (text s (field_a s x))) refl refl refl
    where
      by : (v t : Truth.Bool) (r : Option ℕ) → eqb (role s (child j)) variable_kind ≡ v → eqb (role s (child j)) this_kind ≡ t
          → resolve s (text s (field_a s (child j))) ≡ r → RootReady p
      by true t (some slot) e f g =
          let n = name (field_a s (child j)) 0 in
          let ok = name-ok e in
          let slots = slot-there s (text s (field_a s (child j))) slot g in
          rw (e, root_pools, root_of, g, variable_root) (name-pushed s T p G n ok, (slots, name-there s T p G n ok))
      by true t none e f g =
          let n = name (field_a s (child j)) 0 in
          let ok = name-ok e in
          rw (e, root_pools, root_of, g, variable_root) (name-pushed s T p G n ok, name-there s T p G n ok)
      by false true r e f g = rw (e, f, root_pools, root_of) (gives_none G, tt)
      by false false r e f g = rw (e, f, root_pools, root_of) (gives_none G, tt)

  -- the code of the root
  root-code : (root : Root) (b d : ℕ) (p : Pools) → PoolsOk s p → GivesOut s T p (root_code rec root (child j) b d p)
  unfolding root_code
  root-code (Roots.Local slot i) b d p G = gives_none G
  root-code (Roots.Named i pos) b d p G = gives_none G
  root-code (Roots.This pos) b d p G = gives_none G
  root-code Roots.Temporary b d p G = L.gives (child j) b d p F.base G

  -- behind the steps, if none failed: at most 255 operands a link fit 16 bits
  chain_of-gives : (root : Root) (b d left : ℕ) (p : Pools) (v : Walked) → left ≤ max_depth → RootOk s (length p.names) root
      → WalkedOk s T p 0 left v → GivesOut s T p (chain_of s rec root j b d v)
  unfolding chain_of
  chain_of-gives root b d left p (walked code xs n q) few R W =
      let o = root_code rec root (child j) (b + length code) (d + n) q in
      let g = root-code root (b + length code) (d + n) q W.gives.good in
      let m = length o.pools.names in
      let R' = root-more (length p.names) m (omega (arith, W.gives.more.names, g.more.names)) s root R in
      let X = steps-more (length q.names) m g.more.names xs W.right in
      let c = chain-pushed s T o.pools g.good root xs n R' X W.inside (omega (arith, W.few)) in
      let last = ins (Ops.Chain (chain_at root xs n o.pools)) (d + n + on_stack root) (position s j) in
      gives-seq (gives-seq W.gives g) (gives-seq c (gives-ins last c.good (chain-holds root xs n o.pools).within))
  chain_of-gives root b d left p (stopped q) few R W =
      gives-seq W (residual-gives s T q W.good j d F.valid)

  -- the node
  pub chain-gives : (b d : ℕ) (p : Pools) → PoolsOk s p → GivesOut s T p (chain s rec j b d p)
  chain-gives b d p G = by (flattens s (links max_depth s j)) refl
    where
      by : (t : Truth.Bool) → flattens s (links max_depth s j) ≡ t → GivesOut s T p (chain s rec j b d p)
      by true e =
          let ready = root-ready p G in
          let q = root_pools s (child j) p in
          let ls = links max_depth s j in
          let walk = steps-ok s T rec L ls 0 b d q F.links ready.0.good in
          rw (chain-flat s rec j b d p e)
          (gives-seq ready.0
          (chain_of-gives (root_of s (child j) p) b d (length ls) q (steps s rec ls 0 b d q) (links-few max_depth s j) ready.1 walk))
      by false e = rw (chain-stays s rec j b d p e) (residual-gives s T p G j d F.valid)
