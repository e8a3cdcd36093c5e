-- A chain adds what its tally says: its operands up to a link that does not lower, and, where all lower, its root and Chain.
use Prim.Native.Nat.{ℕ, ◌+◌, ◌≤◌, ◌<◌, min}
use mathlib.Core.Path.{◌≡◌, refl, sym}
use mathlib.Core.Bool.{Bool, true, false}
use mathlib.Core.Option.{Option, none, some}
use mathlib.Core.List.{List, [], ◌∷◌, ◌++◌}
use native.Mathlib.Omega.{arith}
use native.Mathlib.Nat.{zero-add}
use lib.Dec.{eqb}
use lib.ListN.{length, length-append}
use Rattle.sheet.specs.Limits.{max_depth}
use Rattle.sheet.specs.Node.{field_a, field_b, field_c, count, position, child}
use Rattle.sheet.specs.Text.{text}
use Rattle.sheet.specs.Namespace.{role}
use Rattle.bytecode.specs.declared.Root.{Root}
use Rattle.bytecode.specs.declared.Step.{Step}
use Rattle.bytecode.specs.declared.Op.TheVariants as Op
use Rattle.lowering.specs.Kinds.{variable_kind, this_kind}
use Rattle.lowering.specs.Code.{Code, ins}
use Rattle.lowering.specs.Pools.{Pools, name, push_name, chain_at, new_chain, push_chain}
use Rattle.lowering.specs.Out.{Rec}
use Rattle.lowering.specs.Slots.{resolve}
use Rattle.lowering.specs.Operands.{operands}
use Rattle.lowering.specs.Flatten as Flatten
use Rattle.lowering.specs.Flatten.{operand_of, links, StepRule, step_rule, has_step, flattens}
use Rattle.lowering.specs.Steps.{Stepped, stepped, failed, index_step, property_step, is_lowerable_method, method_after, method_step}
use Rattle.lowering.specs.Steps.{step_by}
use Rattle.lowering.specs.Steps.{Walked, walked, stopped, onto, steps}
use Rattle.lowering.specs.Chain.{variable_root, root_of, root_pools, on_stack, root_code, chain_of}
use Rattle.lowering.specs.Chain as Chain
use Rattle.expr_count.specs.declared.tallies.Tally.{Tally}
use Rattle.expr_count.specs.declared.links.Link.{Link}
use Rattle.expr_count.specs.declared.links.Link.TheVariants.{Lowers, Fails, Nowhere}
use Rattle.expr_count.specs.Tally.{instructions, nothing, plus, taken_back}
use Rattle.expr_count.specs.Link.{link_by, link, grade, least, temporary}
use Rattle.expr_count.specs.Count.{siblings, walk_on, walk, chain_by, chain}
use Rattle.expr_count.specs.Count as Count
use Rattle.expr_count.proofs.CodeLaws.{by-nowhere, by-failed, by_whole}
use Rattle.expr_count.proofs.FarLaws.{flattens-far, flattens-not}
use Rattle.expr_count.proofs.Adds.{Adds, OutAdds, Counts, Alike, adds_none, adds-emits, adds-seq, adds-length, adds-from, adds-into}
use Rattle.expr_count.proofs.SiblingsAdd.{operands-add, single-adds}
use Rattle.expr_count.proofs.PlanAdds.{name-alike, residual-adds}

-- ---- one step

-- a step adds what its link says; it fails where its link does
abbrev pub StepAdds : List ℕ → Count.Rec → Pools → Link → Stepped → Type 0
StepAdds s t p (Lowers o) (stepped code x k q) = Adds p (siblings s t 0 o.n o.from) (length code) q
StepAdds s t p (Lowers o) (failed q) = ⊥
StepAdds s t p Fails (stepped code x k q) = ⊥
StepAdds s t p Fails (failed q) = Alike p q
StepAdds s t p Nowhere (stepped code x k q) = ⊥
StepAdds s t p Nowhere (failed q) = Alike p q

alike_refl : (p : Pools) → Alike p p
alike_refl p = record { emitted-same = refl; defeated-same = refl }

module _ (s : List ℕ) (rec : Rec) (t : Count.Rec) (C : Counts rec t) (c n b d : ℕ) (p : Pools) where
  index-adds : StepAdds s t p (link_by Flatten.index s (operand_of s c)) (index_step s rec c n b d p)
  unfolding link_by index_step
  index-adds = single-adds s rec t C (operand_of s c) b d p

  property-adds : StepAdds s t p (link_by Flatten.property s (operand_of s c)) (property_step s c p)
  unfolding link_by property_step siblings
  property-adds =
      let x = operand_of s c in
      let p₁ = push_name s (name (field_a s x) 0) p in
      let p₂ = push_name s (name (field_b s x) 0) p₁ in
      let p₃ = push_name s (name (field_c s x) 0) p₂ in
      adds-from (name-alike s (name (field_a s x) 0) p)
      (adds-from (name-alike s (name (field_b s x) 0) p₁) (adds-from (name-alike s (name (field_c s x) 0) p₂) (adds_none p₃)))

  method-lowers : is_lowerable_method s (operand_of s c) ≡ true
      → StepAdds s t p (link_by Flatten.method s (operand_of s c)) (method_step s rec c n b d p)
  unfolding link_by method_step method_after
  method-lowers h =
      let x = operand_of s c in
      let o = operands s rec (count s x) (child x) b d p in
      rw (h, link_by, method_step) (adds-into (name-alike s (name (field_a s x) 0) o.pools) (operands-add s rec t C (count s x) (child x) b d p))

  method-fails : is_lowerable_method s (operand_of s c) ≡ false
      → StepAdds s t p (link_by Flatten.method s (operand_of s c)) (method_step s rec c n b d p)
  unfolding link_by method_step
  method-fails h = rw (h, link_by, method_step) (alike_refl p)

  method-adds : StepAdds s t p (link_by Flatten.method s (operand_of s c)) (method_step s rec c n b d p)
  method-adds = by (is_lowerable_method s (operand_of s c)) refl
    where
      by : (l : Bool) → is_lowerable_method s (operand_of s c) ≡ l
          → StepAdds s t p (link_by Flatten.method s (operand_of s c)) (method_step s rec c n b d p)
      by true h = method-lowers h
      by false h = method-fails h

  none-adds : StepAdds s t p (link_by Flatten.none s (operand_of s c)) (failed p)
  unfolding link_by
  none-adds = alike_refl p

  by-step-rule : (r : StepRule) → StepAdds s t p (link_by r s (operand_of s c)) (step_by r s rec c n b d p)
  unfolding step_by
  by-step-rule Flatten.index = index-adds
  by-step-rule Flatten.property = property-adds
  by-step-rule Flatten.method = method-adds
  by-step-rule Flatten.none = none-adds

  step-adds : StepAdds s t p (link s c) (step_by (step_rule s c) s rec c n b d p)
  unfolding link
  step-adds = by-step-rule (step_rule s c)

-- ---- all steps

-- a walk to the end, or one that stops: its code is taken back
abbrev pub WalkAdds : Pools → Tally → ℕ → Walked → Type 0
WalkAdds p u far (walked code xs n q) = (2 ≤ far) × Adds p u (length code) q
WalkAdds p u far (stopped q) = (far < 2) × Adds p (taken_back u) 0 q

back-seq : {p q r : Pools} {u : Tally} (v : Tally) {m : ℕ} → Adds p u m q → Adds q (taken_back v) 0 r → Adds p (taken_back (plus u v)) 0 r
unfolding taken_back plus
back-seq v g h =
    let k = adds-seq g h in
    record { length-is = refl; emitted-is = k.emitted-is; defeated-is = k.defeated-is }

onto-adds : (p q : Pools) (u v : Tally) (far : ℕ) (code : Code) (x : Step) (w : Walked) → Adds p u (length code) q → WalkAdds q v far w
    → WalkAdds p (plus u v) (min 2 far) (onto code x w)
unfolding onto
onto-adds p q u v far code x (walked rest xs n r) g h = (omega arith, adds-length (length-append code rest) (adds-seq g h.1))
onto-adds p q u v far code x (stopped r) g h = (omega arith, back-seq v g h.1)

nothing-back : (p q : Pools) → Alike p q → Adds p (taken_back nothing) 0 q
unfolding taken_back nothing instructions
nothing-back p q a = adds-into a (adds_none p)

module _ (s : List ℕ) (rec : Rec) (t : Count.Rec) (C : Counts rec t) where
  steps-add : (ls : List ℕ) (n b d : ℕ) (p : Pools) → WalkAdds p (walk s t ls) (least s ls) (steps s rec ls n b d p)
  unfolding walk walk_on grade least steps
  steps-add [] n b d p = (omega arith, adds_none p)
  steps-add (c ∷ cs) n b d p =
      by (link s c) (step_by (step_rule s c) s rec c n b d p) refl refl (step-adds s rec t C c n b d p) (steps-add cs)
    where
      by : (l : Link) (st : Stepped) → link s c ≡ l → step_by (step_rule s c) s rec c n b d p ≡ st → StepAdds s t p l st
          → ((n b d : ℕ) (p : Pools) → WalkAdds p (walk s t cs) (least s cs) (steps s rec cs n b d p))
          → WalkAdds p (walk s t (c ∷ cs)) (least s (c ∷ cs)) (steps s rec (c ∷ cs) n b d p)
      by (Lowers o) (stepped code x k q) e f g ih =
          rw (e, f, walk, least, steps)
          (onto-adds p q (siblings s t 0 o.n o.from) (walk s t cs) (least s cs) code x
          (steps s rec cs (n + k) (b + length code) (d + k) q) g
          (ih (n + k) (b + length code) (d + k) q))
      by (Lowers o) (failed q) e f g ih = absurd g
      by Fails (stepped code x k q) e f g ih = absurd g
      by Fails (failed q) e f g ih = rw (e, f, walk, least, steps) (omega arith, nothing-back p q g)
      by Nowhere (stepped code x k q) e f g ih = absurd g
      by Nowhere (failed q) e f g ih = rw (e, f, walk, least, steps) (omega arith, nothing-back p q g)

-- ---- the root

walk_from : {p q : Pools} → Alike p q → (u : Tally) (far : ℕ) (w : Walked) → WalkAdds q u far w → WalkAdds p u far w
walk_from a u far (walked code xs n r) h = (h.0, adds-from a h.1)
walk_from a u far (stopped r) h = (h.0, adds-from a h.1)

chain-alike : (root : Root) (xs : List Step) (n : ℕ) (p : Pools) → Alike p (push_chain root xs n p)
unfolding push_chain new_chain
chain-alike root xs n p = by (eqb (chain_at root xs n p) (length p.chains)) refl
  where
    by : (l : Bool) → eqb (chain_at root xs n p) (length p.chains) ≡ l → Alike p (push_chain root xs n p)
    by true e = rw (e, push_chain) (record { emitted-same = refl; defeated-same = refl })
    by false e = rw (e, push_chain) (alike_refl p)

root_alike : (s : List ℕ) (v : ℕ) (p : Pools) → Alike p (root_pools s v p)
unfolding root_pools
root_alike s v p = by (eqb (role s v) variable_kind) refl
  where
    by : (l : Bool) → eqb (role s v) variable_kind ≡ l → Alike p (root_pools s v p)
    by true e = rw (e, root_pools) (name-alike s (name (field_a s v) 0) p)
    by false e = rw (e, root_pools) (alike_refl p)

module _ (s : List ℕ) (rec : Rec) (t : Count.Rec) (C : Counts rec t) where
  variable-root : (v b d : ℕ) (p q : Pools) → OutAdds q nothing (root_code rec (variable_root s v p) v b d q)
  unfolding variable_root root_code
  variable-root v b d p q = by (resolve s (text s (field_a s v))) refl
    where
      by : (f : Option ℕ) → resolve s (text s (field_a s v)) ≡ f → OutAdds q nothing (root_code rec (variable_root s v p) v b d q)
      by (some slot) e = rw (e, variable_root) (adds_none q)
      by none e = rw (e, variable_root) (adds_none q)

  root-adds : (v b d : ℕ) (p q : Pools) → OutAdds q (siblings s t 0 (temporary s v) v) (root_code rec (root_of s v p) v b d q)
  unfolding temporary root_of root_code siblings
  root-adds v b d p q = by (eqb (role s v) variable_kind) (eqb (role s v) this_kind) refl refl
    where
      by : (l m : Bool) → eqb (role s v) variable_kind ≡ l → eqb (role s v) this_kind ≡ m
          → OutAdds q (siblings s t 0 (temporary s v) v) (root_code rec (root_of s v p) v b d q)
      by true m e f = rw (e, temporary, root_of) (variable-root v b d p q)
      by false true e f = rw (e, f, temporary, root_of) (adds_none q)
      by false false e f = rw (e, f, temporary, root_of) (single-adds s rec t C v b d q)

  -- ---- the chain

  -- by how far it comes, at least to its walk
  of-adds : (root : Root) (j b d : ℕ) (p : Pools) (u v : Tally) (far : ℕ) (w : Walked) → 1 ≤ far → WalkAdds p u far w
      → ((b d : ℕ) (q : Pools) → OutAdds q v (root_code rec root (child j) b d q))
      → OutAdds p (chain_by far u v) (chain_of s rec root j b d w)
  unfolding chain_of
  of-adds root j b d p u v far (walked code xs n q) f h k =
      let o = root_code rec root (child j) (b + length code) (d + n) q in
      let r = push_chain root xs n o.pools in
      let last = ins (Op.Chain (chain_at root xs n o.pools)) (d + n + on_stack root) (position s j) in
      rw (by_whole far u v h.0)
      (adds-length (omega (arith, length-append (code ++ o.code) (last ∷ []), length-append code o.code))
      (adds-seq (adds-into (chain-alike root xs n o.pools) (adds-seq h.1 (k (b + length code) (d + n) q))) (adds-emits 1 r)))
  of-adds root j b d p u v far (stopped q) f h k =
      rw (by-failed far u v f h.0) (adds-length (sym (zero-add _)) (adds-seq h.1 (residual-adds j d q)))

  module _ (j b d : ℕ) (p : Pools) where
    flat-adds : flattens s (links max_depth s j) ≡ true → OutAdds p (chain s t j) (Chain.chain s rec j b d p)
    unfolding chain Chain.chain
    flat-adds h =
        let ls = links max_depth s j in
        let p₁ = root_pools s (child j) p in
        rw (h, Chain.chain)
        (of-adds (root_of s (child j) p) j b d p (walk s t ls) (siblings s t 0 (temporary s (child j)) (child j)) (least s ls)
        (steps s rec ls 0 b d p₁)
        (flattens-far s ls h)
        (walk_from (root_alike s (child j) p) (walk s t ls) (least s ls) (steps s rec ls 0 b d p₁) (steps-add s rec t C ls 0 b d p₁))
        (λ b d q. root-adds (child j) b d p q))

    stay-adds : flattens s (links max_depth s j) ≡ false → OutAdds p (chain s t j) (Chain.chain s rec j b d p)
    unfolding chain Chain.chain
    stay-adds h =
        rw (h, Chain.chain, by-nowhere (least s (links max_depth s j)) _ _ (flattens-not s (links max_depth s j) h)) (residual-adds j d p)

    pub chain-adds : OutAdds p (chain s t j) (Chain.chain s rec j b d p)
    chain-adds = by (flattens s (links max_depth s j)) refl
      where
        by : (l : Bool) → flattens s (links max_depth s j) ≡ l → OutAdds p (chain s t j) (Chain.chain s rec j b d p)
        by true h = flat-adds h
        by false h = stay-adds h
