-- A relation between the pools before and after that each addition to them keeps holds of the lowering of every expression. So what is
-- shown of additions one by one is shown of the whole, as that pools only grow.
use Prim.Native.Nat.{ℕ, zero, suc, ◌+◌, ◌-◌}
use mathlib.Core.Path.{◌≡◌, refl}
use mathlib.Core.Bool.{Bool, true, false}
use mathlib.Core.Option.{Option, none, some}
use mathlib.Core.List.{List, [], ◌∷◌}
use lib.Dec.{eqb, leb}
use lib.ListN.{length}
use Rattle.lowering.proofs.LinkedChain.{method-lowers, method-fails, steps-go, steps-fail}
use Rattle.sheet.specs.Limits.{max_depth}
use Rattle.sheet.specs.Node.{count, field_a, field_b, field_c, child, next}
use Rattle.sheet.specs.Text.{text}
use Rattle.sheet.specs.Namespace.{qualified, role}
use Rattle.sheet.specs.Walk.{skip}
use Rattle.bytecode.specs.declared.Receiver.{Receiver}
use Rattle.bytecode.specs.declared.Root.{Root}
use Rattle.bytecode.specs.declared.Root.TheVariants.{Local, Named, This, Temporary}
use Rattle.bytecode.specs.declared.Op.{Op}
use Rattle.bytecode.specs.declared.Step.{Step}
use Rattle.lowering.specs.Limits.{max_elements}
use Rattle.lowering.specs.Kinds.{variable_kind}
use Rattle.lowering.specs.Code.{Code}
use Rattle.lowering.specs.Pools.{Pools, Const, Name, name, own_name, name_at, const_of, emits, defeat, push_const, push_name, push_token, push_residual}
use Rattle.lowering.specs.Pools.{push_chain}
use Rattle.lowering.specs.Out.{Out, out, Rec, and_then, emit_at, residual_expr}
use Rattle.lowering.specs.Slots.{resolve}
use Rattle.lowering.specs.Leaf as leaf
use Rattle.lowering.specs.Operands.{operands}
use Rattle.lowering.specs.Array.{elements, array}
use Rattle.lowering.specs.Interpolated.{segments, interpolated}
use Rattle.lowering.specs.ShortCircuit.{fragments, short_circuit}
use Rattle.lowering.specs.Coalesce.{coalesce}
use Rattle.lowering.specs.Call as call
use Rattle.lowering.specs.Call.{CallRule, First, call_rule, make_fn_ptr, call_fn_ptr, receiver, other_args, call_ref, call_local, call_this}
use Rattle.lowering.specs.Call.{call_named, stores_token, call_as, call_token, call_values, lower_call_by, fn_call_by, fn_call}
use Rattle.lowering.specs.Call.{ref_at, loaded_args, qualified_local, qualified_this, qualified_named, qualified_values, lower_qualified_by}
use Rattle.lowering.specs.Call.{lower_qualified, lower_call}
use Rattle.lowering.specs.Flatten as flatten
use Rattle.lowering.specs.Flatten.{StepRule, index, property, method, operand_of, step_rule, links, flattens}
use Rattle.lowering.specs.Steps.{Stepped, stepped, failed, index_step, property_step, is_lowerable_method, method_after, method_step, step_by}
use Rattle.lowering.specs.Steps.{Walked, walked, stopped, onto, steps}
use Rattle.lowering.specs.Chain.{root_of, root_pools, root_code, chain_of, chain}
use Rattle.lowering.specs.Expression as expressions
use Rattle.lowering.specs.Expression.{Rule, rule, by_rule, expression}
use Rattle.expr_chains.proofs.WalkLaws.{root-pools-on, root-pools-off}
use mathlib.Core.Path.{subst}

-- what each addition keeps
pub record Steady (s : List ℕ) (R : Pools → Pools → Type 0) : Type 0 where
  pub stays : (p : Pools) → R p p
  pub joins : {p q r : Pools} → R p q → R q r → R p r
  pub by-emits : (n : ℕ) (p : Pools) → R p (emits n p)
  pub by-defeat : (p : Pools) → R p (defeat p)
  pub by-const : (c : Const) (p : Pools) → R p (push_const s c p)
  pub by_name : (n : Name) (p : Pools) → R p (push_name s n p)
  pub by_token : (t : ℕ) (p : Pools) → R p (push_token t p)
  pub by-residual : (j : ℕ) (p : Pools) → R p (push_residual j p)
  pub by_chain : (r : Root) (xs : List Step) (n : ℕ) (p : Pools) → R p (push_chain r xs n p)

-- the lowering of a child keeps it
pub record Follows (R : Pools → Pools → Type 0) (rec : Rec) : Type 0 where
  pub follows : (j b d : ℕ) (p : Pools) → R p (rec j b d p).pools

module _ (s : List ℕ) (R : Pools → Pools → Type 0) (S : Steady s R) where
  -- one instruction, and code behind code
  emit-follows : (op : Op) (pos d : ℕ) (p : Pools) → R p (emit_at op pos d p).pools
  unfolding emit_at
  emit-follows op pos d p = S.by-emits 1 p

  residual-follows : (j d : ℕ) (p : Pools) → R p (residual_expr j d p).pools
  unfolding residual_expr emit_at
  residual-follows j d p = S.joins (S.by-residual j p) (S.by-emits 1 (push_residual j p))

  then-follows : (p : Pools) (o : Out) (c : Code) → R p o.pools → R p (and_then o c).pools
  unfolding and_then
  then-follows p o c h = S.joins h (S.by-emits (length c) o.pools)

  -- leaves
  constant-follows : (j d : ℕ) (p : Pools) → R p (leaf.constant s j d p).pools
  unfolding leaf.constant emit_at
  constant-follows j d p = S.joins (S.by-const (const_of s j) p) (S.by-emits 1 (push_const s (const_of s j) p))

  named-follows : (j d : ℕ) (p : Pools) → R p (leaf.load_named s j d p).pools
  unfolding leaf.load_named emit_at
  named-follows j d p =
      S.joins (S.by_name (name (field_a s j) 0) p) (S.by-emits 1 (push_name s (name (field_a s j) 0) p))

  plain-follows : (j d : ℕ) (p : Pools) → R p (leaf.load_plain s j d p).pools
  unfolding leaf.load_plain emit_at
  plain-follows j d p = by (resolve s (text s (field_a s j))) refl
    where
      by : (o : Option ℕ) → resolve s (text s (field_a s j)) ≡ o → R p (leaf.load_plain s j d p).pools
      by none e = rw (e, leaf.load_plain) (named-follows j d p)
      by (some slot) e = rw (e, leaf.load_plain) (S.by-emits 1 p)

  variable-follows : (j d : ℕ) (p : Pools) → R p (leaf.variable s j d p).pools
  unfolding leaf.variable leaf.load_qualified emit_at
  variable-follows j d p = by (qualified s j) refl
    where
      by : (t : Bool) → qualified s j ≡ t → R p (leaf.variable s j d p).pools
      by true e = rw (e, leaf.variable) (S.joins (S.by_name (own_name s j 0) p) (S.by-emits 1 (push_name s (own_name s j 0) p)))
      by false e = rw (e, leaf.variable) (plain-follows j d p)

module _ (s : List ℕ) (R : Pools → Pools → Type 0) (S : Steady s R) (rec : Rec) (F : Follows R rec) where
  operands-follow : (n j b d : ℕ) (p : Pools) → R p (operands s rec n j b d p).pools
  unfolding operands
  operands-follow zero j b d p = S.stays p
  operands-follow (suc n) j b d p =
      let o = rec j b d p in
      S.joins (F.follows j b d p) (operands-follow n (next s j) (b + length o.code) (suc d) o.pools)

  elements-follow : (n i j b d : ℕ) (p : Pools) → R p (elements s rec n i j b d p).pools
  unfolding elements
  elements-follow zero i j b d p = S.stays p
  elements-follow (suc n) i j b d p =
      let o = rec j b d p in
      S.joins (S.joins (F.follows j b d p) (S.by-emits 1 o.pools))
      (elements-follow n (suc i) (next s j) (b + length o.code + 1) (suc d) (emits 1 o.pools))

  array-follows : (j b d : ℕ) (p : Pools) → R p (array s rec j b d p).pools
  unfolding array and_then
  array-follows j b d p = by (leb (count s j) max_elements) refl
    where
      by : (t : Bool) → leb (count s j) max_elements ≡ t → R p (array s rec j b d p).pools
      by true e =
          rw (e, array)
          (S.joins (elements-follow (count s j) 0 (child j) b d p) (S.by-emits 1 (elements s rec (count s j) 0 (child j) b d p).pools))
      by false e = rw (e, array) (residual-follows s R S j d p)

  segments-follow : (n j b d : ℕ) (p : Pools) → R p (segments s rec n j b d p).pools
  unfolding segments
  segments-follow zero j b d p = S.stays p
  segments-follow (suc n) j b d p =
      let o = rec j b d p in
      S.joins (S.joins (F.follows j b d p) (S.by-emits 1 o.pools))
      (segments-follow n (next s j) (b + length o.code + 1) d (emits 1 o.pools))

  interpolated-follows : (j b d : ℕ) (p : Pools) → R p (interpolated s rec j b d p).pools
  unfolding interpolated and_then
  interpolated-follows j b d p =
      let r = segments s rec (count s j) (child j) (b + 1) (suc d) (emits 1 p) in
      S.joins (S.joins (S.by-emits 1 p) (segments-follow (count s j) (child j) (b + 1) (suc d) (emits 1 p))) (S.by-emits 1 r.pools)

  fragments-follow : (gap n j b d : ℕ) (p : Pools) → R p (fragments s rec gap n j b d p).pools
  unfolding fragments
  fragments-follow gap zero j b d p = S.stays p
  fragments-follow gap (suc n) j b d p =
      let o = rec j b d p in
      S.joins (S.joins (F.follows j b d p) (S.by-emits gap o.pools))
      (fragments-follow gap n (next s j) (b + length o.code + gap) d (emits gap o.pools))

  short-follows : (stop j b d : ℕ) (p : Pools) → R p (short_circuit stop s rec j b d p).pools
  unfolding short_circuit
  short-follows stop j b d p =
      S.joins (fragments-follow 1 (count s j) (child j) b d p) (S.by-emits 3 (fragments s rec 1 (count s j) (child j) b d p).pools)

  coalesce-follows : (j b d : ℕ) (p : Pools) → R p (coalesce s rec j b d p).pools
  unfolding coalesce
  coalesce-follows j b d p =
      S.joins (fragments-follow 2 (count s j - 1) (child j) b d p)
      (F.follows (skip s (count s j - 1) (child j)) _ d (fragments s rec 2 (count s j - 1) (child j) b d p).pools)

  -- calls
  ref-follows : (j : ℕ) (r : Receiver) (d : ℕ) (p : Pools) (o : Out) → R p o.pools → R p (call_ref s j r d o).pools
  unfolding call_ref and_then
  ref-follows j r d p o h =
      S.joins (S.joins h (S.by_name (name (field_a s j) 0) o.pools)) (S.by-emits 1 (push_name s (name (field_a s j) 0) o.pools))

  others-follow : (j b d : ℕ) (p : Pools) → R p (other_args s rec j b d p).pools
  unfolding other_args
  others-follow j b d p = operands-follow (count s j - 1) (next s (child j)) b d p

  as-follows : (j op capture d : ℕ) (p : Pools) (o : Out) → R p o.pools → R p (call_as s j op capture d o).pools
  unfolding call_as and_then
  as-follows j op capture d p o h =
      S.joins (S.joins h (S.by_name (name (field_a s j) capture) o.pools))
      (S.by-emits 1 (push_name s (name (field_a s j) capture) o.pools))

  token-follows : (j d : ℕ) (p : Pools) (o : Out) → R p o.pools → R p (call_token s j d o).pools
  unfolding call_token
  token-follows j d p o h =
      let q = push_token (field_c s j) o.pools in
      as-follows j _ 0 d p (out o.code q) (S.joins h (S.by_token (field_c s j) o.pools))

  values-follow : (j b d : ℕ) (p : Pools) → R p (call_values s rec j b d p).pools
  unfolding call_values
  values-follow j b d p = by (stores_token s j) refl
    where
      h : R p (operands s rec (count s j) (child j) b d p).pools
      h = operands-follow (count s j) (child j) b d p

      by : (t : Bool) → stores_token s j ≡ t → R p (call_values s rec j b d p).pools
      by true e = rw (e, call_values) (token-follows j d p (operands s rec (count s j) (child j) b d p) h)
      by false e = rw (e, call_values) (as-follows j 0 (field_b s j) d p (operands s rec (count s j) (child j) b d p) h)

  by-follows : (f : First) (j b d : ℕ) (p : Pools) → R p (lower_call_by f s rec j b d p).pools
  unfolding lower_call_by call_local call_this call_named
  by-follows (call.local slot) j b d p = ref-follows j _ _ p (other_args s rec j b d p) (others-follow j b d p)
  by-follows call.named j b d p =
      let v = name (field_a s (child j)) 0 in
      let o = other_args s rec j b d (push_name s v p) in
      ref-follows j _ _ p (and_then o _) (then-follows s R S p o _ (S.joins (S.by_name v p) (others-follow j b d (push_name s v p))))
  by-follows call.this j b d p =
      ref-follows j _ _ p (out _ _) (S.joins (S.by-emits 1 p) (others-follow j (b + 1) (suc d) (emits 1 p)))
  by-follows call.value j b d p = values-follow j b d p

  -- calls with a namespace
  at-follows : (i j : ℕ) (r : Receiver) (d : ℕ) (p : Pools) (o : Out) → R p o.pools → R p (ref_at i s j r d o).pools
  unfolding ref_at
  at-follows i j r d p o h = then-follows s R S p o _ h

  loaded-follows : (load : Op) (j b d : ℕ) (p : Pools) → R p (loaded_args load s rec j b d p).pools
  unfolding loaded_args
  loaded-follows load j b d p = S.joins (S.by-emits 1 p) (others-follow j (b + 1) (suc d) (emits 1 p))

  qualified-by-follows : (f : First) (i j b d : ℕ) (p : Pools) → R p (lower_qualified_by f i s rec j b d p).pools
  unfolding lower_qualified_by qualified_local qualified_this qualified_named qualified_values
  qualified-by-follows (call.local slot) i j b d p = at-follows i j _ _ p (other_args s rec j b d p) (others-follow j b d p)
  qualified-by-follows call.named i j b d p =
      let v = name (field_a s (child j)) 0 in
      at-follows i j _ _ p (loaded_args _ s rec j b d (push_name s v p))
      (S.joins (S.by_name v p) (loaded-follows _ j b d (push_name s v p)))
  qualified-by-follows call.this i j b d p = at-follows i j _ _ p (loaded_args _ s rec j b d p) (loaded-follows _ j b d p)
  qualified-by-follows call.value i j b d p =
      then-follows s R S p (operands s rec (count s j) (child j) b d p) _ (operands-follow (count s j) (child j) b d p)

  qualified-follows : (j b d : ℕ) (p : Pools) → R p (lower_qualified s rec j b d p).pools
  unfolding lower_qualified
  qualified-follows j b d p =
      let n = own_name s j (field_b s j) in
      S.joins (S.by_name n p) (qualified-by-follows (receiver s j) (name_at s n p) j b d (push_name s n p))

  call-follows : (j b d : ℕ) (p : Pools) → R p (lower_call s rec j b d p).pools
  unfolding lower_call
  call-follows j b d p = by (qualified s j) refl
    where
      by : (t : Bool) → qualified s j ≡ t → R p (lower_call s rec j b d p).pools
      by true e = rw (e, lower_call) (qualified-follows j b d p)
      by false e = rw (e, lower_call) (by-follows (receiver s j) j b d p)

  rule-follows : (r : CallRule) (j b d : ℕ) (p : Pools) → R p (fn_call_by r s rec j b d p).pools
  unfolding fn_call_by make_fn_ptr call_fn_ptr
  rule-follows call.fn_ptr j b d p = then-follows s R S p (rec (child j) b d p) _ (F.follows (child j) b d p)
  rule-follows call.fn_ptr_call j b d p =
      then-follows s R S p (operands s rec (count s j) (child j) b d p) _ (operands-follow (count s j) (child j) b d p)
  rule-follows call.lowerable j b d p = call-follows j b d p
  rule-follows call.eval j b d p = S.joins (S.by-defeat p) (residual-follows s R S j d (defeat p))
  rule-follows call.residual j b d p = residual-follows s R S j d p

  -- chains
  abbrev StepFollows : Pools → Stepped → Type 0
  StepFollows p (stepped code x k q) = R p q
  StepFollows p (failed q) = R p q

  abbrev WalkFollows : Pools → Walked → Type 0
  WalkFollows p (walked code xs n q) = R p q
  WalkFollows p (stopped q) = R p q

  onto-follows : (p q : Pools) (code : Code) (x : Step) (w : Walked) → R p q → WalkFollows q w → WalkFollows p (onto code x w)
  unfolding onto
  onto-follows p q code x (walked rest xs n r) g h = S.joins g h
  onto-follows p q code x (stopped r) g h = S.joins g h

  method-follows : (c n b d : ℕ) (p : Pools) → StepFollows p (method_step s rec c n b d p)
  unfolding method_after
  method-follows c n b d p = by (is_lowerable_method s (operand_of s c)) refl
    where
      by : (t : Bool) → is_lowerable_method s (operand_of s c) ≡ t → StepFollows p (method_step s rec c n b d p)
      by true h =
          let x = operand_of s c in
          let o = operands s rec (count s x) (child x) b d p in
          rw (method-lowers s rec c n b d p h)
          (S.joins (operands-follow (count s x) (child x) b d p) (S.by_name (name (field_a s x) 0) o.pools))
      by false h = rw (method-fails s rec c n b d p h) (S.stays p)

  step_follows : (r : StepRule) (c n b d : ℕ) (p : Pools) → StepFollows p (step_by r s rec c n b d p)
  unfolding step_by index_step property_step
  step_follows index c n b d p = F.follows (operand_of s c) b d p
  step_follows property c n b d p =
      let x = operand_of s c in
      let p₁ = push_name s (name (field_a s x) 0) p in
      let p₂ = push_name s (name (field_b s x) 0) p₁ in
      S.joins (S.by_name (name (field_a s x) 0) p)
      (S.joins (S.by_name (name (field_b s x) 0) p₁) (S.by_name (name (field_c s x) 0) p₂))
  step_follows method c n b d p = method-follows c n b d p
  step_follows flatten.none c n b d p = S.stays p

  steps-follow : (cs : List ℕ) (n b d : ℕ) (p : Pools) → WalkFollows p (steps s rec cs n b d p)
  unfolding steps
  steps-follow [] n b d p = S.stays p
  steps-follow (c ∷ cs) n b d p =
      by (step_by (step_rule s c) s rec c n b d p) refl (λ n b d p. steps-follow cs n b d p)
    where
      by : (o : Stepped) → step_by (step_rule s c) s rec c n b d p ≡ o → ((n b d : ℕ) (p : Pools) → WalkFollows p (steps s rec cs n b d p))
          → WalkFollows p (steps s rec (c ∷ cs) n b d p)
      by (stepped code x k q) h more =
          let one = subst (StepFollows p) h (step_follows (step_rule s c) c n b d p) in
          rw (steps-go s rec c cs n b d p code x k q h)
          (onto-follows p q code x (steps s rec cs (n + k) (b + length code) (d + k) q) one (more (n + k) (b + length code) (d + k) q))
      by (failed q) h more =
          rw (steps-fail s rec c cs n b d p q h) (subst (StepFollows p) h (step_follows (step_rule s c) c n b d p))

  root-pools-follow : (v : ℕ) (p : Pools) → R p (root_pools s v p)
  root-pools-follow v p = by (eqb (role s v) variable_kind) refl
    where
      by : (t : Bool) → eqb (role s v) variable_kind ≡ t → R p (root_pools s v p)
      by true h = rw (root-pools-on s v p h) (S.by_name (name (field_a s v) 0) p)
      by false h = rw (root-pools-off s v p h) (S.stays p)

  root-code-follows : (r : Root) (v b d : ℕ) (p : Pools) → R p (root_code rec r v b d p).pools
  unfolding root_code
  root-code-follows (Local slot i) v b d p = S.stays p
  root-code-follows (Named i pos) v b d p = S.stays p
  root-code-follows (This pos) v b d p = S.stays p
  root-code-follows Temporary v b d p = F.follows v b d p

  chain-of-follows : (r : Root) (j b d : ℕ) (p : Pools) (w : Walked) → WalkFollows p w → R p (chain_of s rec r j b d w).pools
  unfolding chain_of
  chain-of-follows r j b d p (walked code xs n q) h =
      let o = root_code rec r (child j) (b + length code) (d + n) q in
      S.joins (S.joins h (root-code-follows r (child j) (b + length code) (d + n) q))
      (S.joins (S.by_chain r xs n o.pools) (S.by-emits 1 (push_chain r xs n o.pools)))
  chain-of-follows r j b d p (stopped q) h = S.joins h (residual-follows s R S j d q)

  chain-follows : (j b d : ℕ) (p : Pools) → R p (chain s rec j b d p).pools
  unfolding chain
  chain-follows j b d p = by (flattens s (links max_depth s j)) refl
    where
      by : (t : Bool) → flattens s (links max_depth s j) ≡ t → R p (chain s rec j b d p).pools
      by true h =
          let q = root_pools s (child j) p in
          let w = steps s rec (links max_depth s j) 0 b d q in
          rw (h, chain)
          (S.joins (root-pools-follow (child j) p)
          (chain-of-follows (root_of s (child j) p) j b d q w (steps-follow (links max_depth s j) 0 b d q)))
      by false h = rw (h, chain) (residual-follows s R S j d p)

  rules-follow : (r : Rule) (j b d : ℕ) (p : Pools) → R p (by_rule r s rec j b d p).pools
  unfolding by_rule leaf.boolean leaf.unit leaf.this fn_call
  rules-follow expressions.boolean j b d p = emit-follows s R S _ _ d p
  rules-follow expressions.unit j b d p = emit-follows s R S _ _ d p
  rules-follow expressions.constant j b d p = constant-follows s R S j d p
  rules-follow expressions.interpolated j b d p = interpolated-follows j b d p
  rules-follow expressions.array j b d p = array-follows j b d p
  rules-follow expressions.variable j b d p = variable-follows s R S j d p
  rules-follow expressions.this j b d p = emit-follows s R S _ _ d p
  rules-follow expressions.fn_call j b d p = rule-follows (call_rule s j) j b d p
  rules-follow expressions.chain j b d p = chain-follows j b d p
  rules-follow expressions.and j b d p = short-follows 0 j b d p
  rules-follow expressions.or j b d p = short-follows 1 j b d p
  rules-follow expressions.coalesce j b d p = coalesce-follows j b d p
  rules-follow expressions.residual j b d p = residual-follows s R S j d p

-- every expression keeps it
pub expression-follows : (s : List ℕ) (R : Pools → Pools → Type 0) → Steady s R → (levels : ℕ) → Follows R (expression levels s)
unfolding expression
expression-follows s R S zero = record { follows = λ j b d p. residual-follows s R S j d p }
expression-follows s R S (suc levels) = record {
  follows = λ j b d p. rules-follow s R S (expression levels s) (expression-follows s R S levels) (rule s j) j b d p;
}
