-- FnCall: all of its code is reached, whichever rule lowers it.
use Prim.Native.Nat.{ℕ, suc, ◌+◌, ◌-◌, ◌≤◌}
use mathlib.Core.Path.{◌≡◌, refl}
use mathlib.Core.Bool.{Bool, true, false, and-eq-true_iff}
use mathlib.Core.List.{List, [], ◌∷◌}
use native.Mathlib.Omega.{arith}
use lib.Dec.{eqb}
use lib.ListN.{length}
use borrow.Author.Tests.{eqb-true}
use Rattle.text.specs.Keyword.{is_eval, is_fn}
use Rattle.sheet.specs.Node.{count, field_a, field_b, field_c, position, child, next}
use Rattle.sheet.specs.Namespace.{qualified}
use Rattle.bytecode.specs.declared.Receiver.{Receiver}
use Rattle.bytecode.specs.declared.Receiver.TheVariants.{Local, Named, This}
use Rattle.bytecode.specs.declared.Op.{Op}
use Rattle.bytecode.specs.declared.Op.TheVariants.{LoadNamed, LoadThis, Call, CallRef, Rotate, MakeFnPtr, CallFnPtr}
use Rattle.lowering.specs.Code.{ins, no_pos}
use Rattle.lowering.specs.Pools.{Name, Pools, emits, defeat, name, own_name, name_at, push_name, token_at, push_token}
use Rattle.lowering.specs.Out.{Out, out, Rec, and_then}
use Rattle.lowering.specs.Operands.{operands}
use Rattle.lowering.specs.Call.{callee, CallRule, fn_ptr, fn_ptr_call, lowerable, eval, residual, is_fn_ptr, is_fn_ptr_call}
use Rattle.lowering.specs.Call.{is_lowerable_call, general_rule, plain_rule, call_rule, make_fn_ptr, call_fn_ptr, First, receiver}
use Rattle.lowering.specs.Call.{other_args, call_ref, call_local, call_this, rotate, call_named, stores_token, call_as, call_token}
use Rattle.lowering.specs.Call.{call_values, lower_call_by, ref_at, loaded_args, qualified_local, qualified_this, qualified_named}
use Rattle.lowering.specs.Call.{qualified_values, lower_qualified_by, lower_qualified, lower_call, fn_call_by, fn_call}
use Rattle.lowering.proofs.Effect.{Context, nexts}
use Rattle.lowering.proofs.Linked.{Linked, link, link-one, link-none}
use Rattle.lowering.specs.Nodes.{Row}
use Rattle.lowering.proofs.NodesLaws.{row_first, row-less, row-others}
use Rattle.lowering.proofs.LinksAll.{LinksAll, link-cons, link-residual, link-then}
use Rattle.lowering.proofs.LinkedOperands.{operands-link}

-- what a rule takes of the count of arguments
abbrev pub Takes : CallRule → ℕ → Type 0
Takes fn_ptr n = 1 ≤ n
Takes fn_ptr_call n = Prim.Unit {0}
Takes lowerable n = Prim.Unit {0}
Takes eval n = Prim.Unit {0}
Takes residual n = Prim.Unit {0}

module _ (s : List ℕ) (j : ℕ) where
  one_argument : is_fn_ptr s j ≡ true → 1 ≤ count s j
  unfolding is_fn_ptr
  one_argument h = let e = eqb-true (count s j) 1 ((and-eq-true_iff (is_fn (callee s j)) (eqb (count s j) 1)).0 h).1 in omega arith

  general-takes : Takes (general_rule s j) (count s j)
  unfolding general_rule
  general-takes = by (is_lowerable_call s j) (is_eval (callee s j))
    where
      by : (t u : Bool) → Takes (elim t [ true ↦ lowerable | false ↦ elim u [ true ↦ eval | false ↦ residual ] ]) (count s j)
      by true u = tt
      by false true = tt
      by false false = tt

  plain-takes : Takes (plain_rule s j) (count s j)
  unfolding plain_rule
  plain-takes = by (is_fn_ptr s j) refl
    where
      others : (t : Bool) → Takes (elim t as (λ u. CallRule) [ true ↦ fn_ptr_call | false ↦ general_rule s j ]) (count s j)
      others true = tt
      others false = general-takes

      by : (t : Bool) → is_fn_ptr s j ≡ t → Takes (plain_rule s j) (count s j)
      by true h = rw (h, plain_rule) (one_argument h)
      by false h = rw (h, plain_rule) (others (is_fn_ptr_call s j))

  pub rule-takes : Takes (call_rule s j) (count s j)
  unfolding call_rule
  rule-takes = by _
    where
      by : (t : Bool) → Takes (elim t as (λ u. CallRule) [ true ↦ general_rule s j | false ↦ plain_rule s j ]) (count s j)
      by true = general-takes
      by false = plain-takes

  -- o, and the call's own instruction
  ref-links : {X : Context} {b : ℕ} (r : Receiver) (d : ℕ) (o : Out) → Linked X b o.code → Linked X b (call_ref s j r d o).code
  unfolding call_ref
  ref-links r d o g =
      let n = name (field_a s j) 0 in
      let i = name_at s n o.pools in
      link-then (out o.code (push_name s n o.pools)) (ins (CallRef i (count s j) r) d (position s j)) g refl

  ref-at-links : {X : Context} {b : ℕ} (i : ℕ) (r : Receiver) (d : ℕ) (o : Out) → Linked X b o.code → Linked X b (ref_at i s j r d o).code
  unfolding ref_at
  ref-at-links i r d o g = link-then o (ins (CallRef i (count s j) r) d (position s j)) g refl

  as-links : {X : Context} {b : ℕ} (op capture d : ℕ) (o : Out) → Linked X b o.code → Linked X b (call_as s j op capture d o).code
  unfolding call_as
  as-links op capture d o g =
      let n = name (field_a s j) capture in
      let i = name_at s n o.pools in
      link-then (out o.code (push_name s n o.pools)) (ins (Call i (count s j) op capture) (d + count s j) (position s j)) g refl

  token-links : {X : Context} {b : ℕ} (d : ℕ) (o : Out) → Linked X b o.code → Linked X b (call_token s j d o).code
  unfolding call_token
  token-links d o g = let t = field_c s j in as-links (suc (token_at t o.pools)) 0 d (out o.code (push_token t o.pools)) g

-- a receiver's value is moved, if there are other arguments
rotate-links : (X : Context) (b others d : ℕ) → Linked X b (rotate others d)
unfolding rotate
rotate-links X b others d = by (eqb others 0)
  where
    by : (t : Bool) → Linked X b (elim t [ true ↦ [] | false ↦ ins (Rotate others) d no_pos ∷ [] ])
    by true = link-none
    by false = link-one (ins (Rotate others) d no_pos) refl

module _ (s : List ℕ) (rec : Rec) (L : LinksAll s rec) (X : Context) (j : ℕ) (r : Row s (count s j) (child j)) where
  fn-ptr-links : (b d : ℕ) (p : Pools) → 1 ≤ count s j → Linked X b (make_fn_ptr s rec j b d p).code
  unfolding make_fn_ptr
  fn-ptr-links b d p h =
      link-then (rec (child j) b d p) (ins MakeFnPtr (suc d) (position s (child j)))
      (L.links X (child j) b d p (row_first {n = 0} (row-less h r)))
      refl

  all-link : (b d : ℕ) (p : Pools) → Linked X b (operands s rec (count s j) (child j) b d p).code
  all-link b d p = operands-link s rec L X (count s j) (child j) b d p r

  fn-ptr-call-links : (b d : ℕ) (p : Pools) → Linked X b (call_fn_ptr s rec j b d p).code
  unfolding call_fn_ptr
  fn-ptr-call-links b d p =
      let last = ins (CallFnPtr (count s j - 1) (field_b s j)) (d + count s j) (position s j) in
      link-then (operands s rec (count s j) (child j) b d p) last (all-link b d p) refl

  others-link : (b d : ℕ) (p : Pools) → Linked X b (other_args s rec j b d p).code
  unfolding other_args
  others-link b d p = operands-link s rec L X (count s j - 1) (next s (child j)) b d p (row-others s (count s j) (child j) r)

  local-links : (slot b d : ℕ) (p : Pools) → Linked X b (call_local s rec slot j b d p).code
  unfolding call_local
  local-links slot b d p = ref-links s j (Local slot) (d + (count s j - 1)) (other_args s rec j b d p) (others-link b d p)

  this-links : (b d : ℕ) (p : Pools) → Linked X b (call_this s rec j b d p).code
  unfolding call_this
  this-links b d p =
      let load = ins LoadThis d (position s (child j)) in
      let o = other_args s rec j (b + 1) (suc d) (emits 1 p) in
      ref-links s j This (d + count s j) (out (load ∷ o.code) o.pools)
      (link-cons load refl (others-link (b + 1) (suc d) (emits 1 p)))

  named-links : (b d : ℕ) (p : Pools) → Linked X b (call_named s rec j b d p).code
  unfolding call_named and_then
  named-links b d p =
      let v = name (field_a s (child j)) 0 in
      let i = name_at s v p in
      let others = count s j - 1 in
      let o = other_args s rec j b d (push_name s v p) in
      let load = ins (LoadNamed i) (d + others) (position s (child j)) in
      let place = b + length o.code + 1 in
      ref-links s j (Named i) (d + count s j) (and_then o (load ∷ rotate others (d + count s j)))
      (link (others-link b d (push_name s v p)) (link-cons load refl (rotate-links X place others (d + count s j))))

  values-links : (b d : ℕ) (p : Pools) → Linked X b (call_values s rec j b d p).code
  unfolding call_values
  values-links b d p = by (stores_token s j)
    where
      by : (t : Bool) → (let o = operands s rec (count s j) (child j) b d p in
          Linked X b (elim t as (λ u. Out) [ true ↦ call_token s j d o | false ↦ call_as s j 0 (field_b s j) d o ]).code)
      by true = token-links s j d (operands s rec (count s j) (child j) b d p) (all-link b d p)
      by false = as-links s j 0 (field_b s j) d (operands s rec (count s j) (child j) b d p) (all-link b d p)

  lower-by-links : (f : First) (b d : ℕ) (p : Pools) → Linked X b (lower_call_by f s rec j b d p).code
  unfolding lower_call_by
  lower-by-links (First.local slot) b d p = local-links slot b d p
  lower-by-links First.named b d p = named-links b d p
  lower-by-links First.this b d p = this-links b d p
  lower-by-links First.value b d p = values-links b d p

  loaded-links : (load : Op) (b d : ℕ) (p : Pools) → nexts X load b ≡ suc b ∷ [] → Linked X b (loaded_args load s rec j b d p).code
  unfolding loaded_args
  loaded-links load b d p h =
      link-cons (ins load d (position s (child j))) h (others-link (b + 1) (suc d) (emits 1 p))

  qualified-by-links : (f : First) (i b d : ℕ) (p : Pools) → Linked X b (lower_qualified_by f i s rec j b d p).code
  unfolding lower_qualified_by qualified_local qualified_named qualified_this qualified_values
  qualified-by-links (First.local slot) i b d p =
      ref-at-links s j i (Local slot) (d + (count s j - 1)) (other_args s rec j b d p) (others-link b d p)
  qualified-by-links First.named i b d p =
      let v = name (field_a s (child j)) 0 in
      let k = name_at s v p in
      let q = push_name s v p in
      ref-at-links s j i (Named k) (d + count s j) (loaded_args (LoadNamed k) s rec j b d q) (loaded-links (LoadNamed k) b d q refl)
  qualified-by-links First.this i b d p =
      ref-at-links s j i This (d + count s j) (loaded_args LoadThis s rec j b d p) (loaded-links LoadThis b d p refl)
  qualified-by-links First.value i b d p =
      link-then (operands s rec (count s j) (child j) b d p)
      (ins (Call i (count s j) 0 (field_b s j)) (d + count s j) (position s j))
      (all-link b d p)
      refl

  lower-links : (b d : ℕ) (p : Pools) → Linked X b (lower_call s rec j b d p).code
  unfolding lower_call lower_qualified
  lower-links b d p = by (qualified s j)
    where
      n : Name
      n = own_name s j (field_b s j)

      by : (t : Bool)
          → Linked X b (elim t as (λ u. Out) [
            | true ↦ lower_qualified s rec j b d p
            | false ↦ lower_call_by (receiver s j) s rec j b d p
          ]).code
      by true = qualified-by-links (receiver s j) (name_at s n p) b d (push_name s n p)
      by false = lower-by-links (receiver s j) b d p

  call-by-links : (c : CallRule) (b d : ℕ) (p : Pools) → Takes c (count s j) → Linked X b (fn_call_by c s rec j b d p).code
  unfolding fn_call_by
  call-by-links fn_ptr b d p h = fn-ptr-links b d p h
  call-by-links fn_ptr_call b d p h = fn-ptr-call-links b d p
  call-by-links lowerable b d p h = lower-links b d p
  call-by-links eval b d p h = link-residual j d (defeat p)
  call-by-links residual b d p h = link-residual j d p

  pub call-links : (b d : ℕ) (p : Pools) → Linked X b (fn_call s rec j b d p).code
  unfolding fn_call
  call-links b d p = call-by-links (call_rule s j) b d p (rule-takes s j)
