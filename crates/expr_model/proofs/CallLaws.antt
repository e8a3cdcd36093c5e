-- A call, by each of its rules: the change is what the definition gives.
use Prim.Native.Nat.{ℕ, suc, ◌+◌, ◌-◌, ◌≤◌}
use mathlib.Core.Path.{◌≡◌, refl, ap, ◌∙◌}
use mathlib.Core.Bool.{Bool, true, false}
use mathlib.Core.List.{List, [], ◌∷◌}
use native.Mathlib.Omega.{arith}
use lib.Dec.{eqb}
use lib.ListN.{length-append}
use Rattle.sheet.specs.Node.{count, field_a, field_b, field_c, position, child, next}
use Rattle.sheet.specs.Namespace.{qualified}
use Rattle.bytecode.specs.declared.Receiver.{Receiver}
use Rattle.bytecode.specs.declared.Receiver.TheVariants.{Local, Named, This}
use Rattle.bytecode.specs.declared.Op as Ops
use Rattle.bytecode.specs.declared.Op.TheVariants as Op
use Rattle.lowering.specs.Limits.{max_args}
use Rattle.lowering.specs.Code.{Ins, ins, no_pos}
use Rattle.lowering.specs.Pools.{Name, emits, name, own_name, name_at, push_name, token_at, push_token}
use Rattle.lowering.specs.Out.{Out, out, Rec, and_then}
use Rattle.lowering.specs.Operands as Operands
use Rattle.lowering.specs.Call.{CallRule, First, call_rule, receiver, stores_token}
use Rattle.lowering.specs.Call as Call
use Rattle.expr_model.specs.Made.{Made, place, after, emit, add_name, add_token, defeated}
use Rattle.expr_model.specs.Construct.{make_fn_ptr, call_fn_ptr, other_args, call_ref, call_local, call_this, rotate, call_named, call_as}
use Rattle.expr_model.specs.Construct.{call_token, call_end, call_values, call_by, fn_call_by, fn_call}
use Rattle.expr_model.specs.Construct.{add_own, ref_at, qualified_local, qualified_this, load_first, qualified_named, values_at}
use Rattle.expr_model.specs.Construct.{qualified_values, qualified_by, call_qualified, call}
use Rattle.expr_model.proofs.Put.{put, behind, low_of, made-path, put-emit, then-then, put-around}
use Rattle.expr_model.proofs.AfterLaws.{
  after-named,
  after-this,
  after-rotate,
  after-make,
  after-pointer,
  after_call,
  after-ref-local,
  after-ref-named,
  after-ref-this,
}
use Rattle.expr_model.proofs.LeafLaws.{residual-is}
use Rattle.expr_model.proofs.SiblingLaws.{operands-is}
use Rattle.expr_model.proofs.CallFacts.{RuleSays, rule-says, FirstSays, first_says}

module _ (s : List ℕ) (j : ℕ) where
  -- the call's name and CallRef
  ref-is : (r : Receiver) (o : Out) (d : ℕ) (a : Made)
      → call_ref s j r (put o d a)
      ≡ put (Call.call_ref s j r d o) (after (Op.CallRef (name_at s (name (field_a s j) 0) o.pools) (count s j) r) 0 d) a
  unfolding call_ref Call.call_ref add_name
  ref-is r o d a =
      let n = name (field_a s j) 0 in
      put-emit (Op.CallRef (name_at s n o.pools) (count s j) r) (position s j) 0 (out o.code (push_name s n o.pools)) d a

  -- the call's name and Call
  as_is : (op capture : ℕ) (o : Out) (d : ℕ) (a : Made) → count s j ≤ max_args
      → call_as s j op capture (put o (d + count s j) a) ≡ put (Call.call_as s j op capture d o) (suc d) a
  unfolding call_as Call.call_as add_name
  as_is op capture o d a h =
      let n = name (field_a s j) capture in
      let i = name_at s n o.pools in
      put-emit (Op.Call i (count s j) op capture) (position s j) 0 (out o.code (push_name s n o.pools)) (d + count s j) a
      ∙ made-path refl refl (after_call 0 d i (count s j) op capture h)

  token-is : (o : Out) (d : ℕ) (a : Made) → count s j ≤ max_args
      → call_token s j (put o (d + count s j) a) ≡ put (Call.call_token s j d o) (suc d) a
  unfolding call_token Call.call_token add_token
  token-is o d a h =
      let t = field_c s j in
      as_is (suc (token_at t o.pools)) 0 (out o.code (push_token t o.pools)) d a h

-- the receiver moved under the others
rotate-is : (others : ℕ) (o : Out) (i : Ins) (d : ℕ) (a : Made)
    → rotate others (put (and_then o (i ∷ [])) d a) ≡ put (and_then o (i ∷ Call.rotate others d)) d a
unfolding rotate Call.rotate
rotate-is others o i d a = by (eqb others 0) refl
  where
    by : (t : Bool) → eqb others 0 ≡ t → rotate others (put (and_then o (i ∷ [])) d a) ≡ put (and_then o (i ∷ Call.rotate others d)) d a
    by true h = rw (h, rotate, Call.rotate)
    by false h =
        rw (h, rotate, Call.rotate)
        (put-emit (Op.Rotate others) no_pos 0 (and_then o (i ∷ [])) d a
        ∙ ap (λ o. put o (after (Op.Rotate others) 0 d) a) (then-then o (i ∷ []) (ins (Op.Rotate others) d no_pos ∷ []))
        ∙ made-path refl refl (after-rotate 0 d others))

module _ (s : List ℕ) (rec : Rec) (j : ℕ) (a : Made) where
  make-is : make_fn_ptr s (low_of rec) j a ≡ behind (Call.make_fn_ptr s rec j) a
  unfolding make_fn_ptr Call.make_fn_ptr
  make-is =
      put-emit Op.MakeFnPtr (position s (child j)) 0 (rec (child j) (place a) a.depth a.pools) (suc a.depth) a
      ∙ made-path refl refl (after-make 0 a.depth)

  pointer_is : 1 ≤ count s j → call_fn_ptr s (low_of rec) j a ≡ behind (Call.call_fn_ptr s rec j) a
  unfolding call_fn_ptr Call.call_fn_ptr
  pointer_is h =
      let d = a.depth in
      let m = count s j in
      let op = Op.CallFnPtr (m - 1) (field_b s j) in
      ap (emit op (position s j) 0) (operands-is s rec m (child j) a)
      ∙ put-emit op (position s j) 0 (Operands.operands s rec m (child j) (place a) d a.pools) (d + m) a
      ∙ made-path refl refl (after-pointer 0 d m (field_b s j) h)

  others-is : (x : Made)
      → other_args s (low_of rec) j x ≡ put (Call.other_args s rec j (place x) x.depth x.pools) (x.depth + (count s j - 1)) x
  unfolding other_args Call.other_args
  others-is x = operands-is s rec (count s j - 1) (next s (child j)) x

  local-is : (slot : ℕ) → count s j ≤ max_args → call_local s (low_of rec) slot j a ≡ behind (Call.call_local s rec slot j) a
  unfolding call_local Call.call_local
  local-is slot h =
      let d = a.depth in
      let o = Call.other_args s rec j (place a) d a.pools in
      let i = name_at s (name (field_a s j) 0) o.pools in
      ap (call_ref s j (Local slot)) (others-is a)
      ∙ ref-is s j (Local slot) o (d + (count s j - 1)) a
      ∙ made-path refl refl (after-ref-local 0 d i (count s j) h slot)

  -- LoadThis
  load-this : emit Op.LoadThis (position s (child j)) 0 a
      ≡ put (and_then (out [] a.pools) (ins Op.LoadThis a.depth (position s (child j)) ∷ [])) (suc a.depth) a
  unfolding emit and_then
  load-this = made-path refl refl (after-this 0 a.depth)

  this-call-is : count s j ≤ max_args → 1 ≤ count s j → call_this s (low_of rec) j a ≡ behind (Call.call_this s rec j) a
  unfolding call_this Call.call_this and_then
  this-call-is h g =
      let d = a.depth in
      let m = count s j in
      let i = ins Op.LoadThis d (position s (child j)) in
      let x = put (and_then (out [] a.pools) (i ∷ [])) (suc d) a in
      let go : ℕ → Out = λ b. Call.other_args s rec j b (suc d) (emits 1 a.pools) in
      let r = go (place a + 1) in
      let o = out (i ∷ r.code) r.pools in
      let e : place x ≡ place a + 1 = length-append a.code (i ∷ []) in
      let deep : suc d + (m - 1) ≡ d + m = omega arith in
      ap (λ y. call_ref s j This (other_args s (low_of rec) j y)) load-this
      ∙ ap (call_ref s j This) (
      others-is x
      ∙ ap (λ b. put (go b) (suc d + (m - 1)) x) e
      ∙ put-around (out [] a.pools) i r (suc d) (suc d + (m - 1)) a
      ∙ made-path refl refl deep
      )
      ∙ ref-is s j This o (d + m) a
      ∙ made-path refl refl (after-ref-this 0 d (name_at s (name (field_a s j) 0) r.pools) m h)

  named-call-is : count s j ≤ max_args → 1 ≤ count s j → call_named s (low_of rec) j a ≡ behind (Call.call_named s rec j) a
  unfolding call_named Call.call_named add_name
  named-call-is h g =
      let d = a.depth in
      let m = count s j in
      let v = name (field_a s (child j)) 0 in
      let i = name_at s v a.pools in
      let o = Call.other_args s rec j (place a) d (push_name s v a.pools) in
      let load = ins (Op.LoadNamed i) (d + (m - 1)) (position s (child j)) in
      let u = and_then o (load ∷ Call.rotate (m - 1) (d + m)) in
      let deep : suc (d + (m - 1)) ≡ d + m = omega arith in
      let loaded : emit (Op.LoadNamed i) (position s (child j)) 0 (put o (d + (m - 1)) a) ≡ put (and_then o (load ∷ [])) (d + m) a
      = put-emit (Op.LoadNamed i) (position s (child j)) 0 o (d + (m - 1)) a ∙ made-path refl refl (after-named 0 (d + (m - 1)) i ∙ deep) in
      ap (λ x. call_ref s j (Named i) (rotate (m - 1) (emit (Op.LoadNamed i) (position s (child j)) 0 x))) (others-is (add_name s v a))
      ∙ ap (λ x. call_ref s j (Named i) (rotate (m - 1) x)) loaded
      ∙ ap (call_ref s j (Named i)) (rotate-is (m - 1) o load (d + m) a)
      ∙ ref-is s j (Named i) u (d + m) a
      ∙ made-path refl refl (after-ref-named 0 d (name_at s (name (field_a s j) 0) u.pools) m h i)

  values-token : stores_token s j ≡ true → count s j ≤ max_args → call_values s (low_of rec) j a ≡ behind (Call.call_values s rec j) a
  unfolding call_values call_end Call.call_values
  values-token t h =
      let o = Operands.operands s rec (count s j) (child j) (place a) a.depth a.pools in
      rw (t, call_end, Call.call_values) (ap (call_token s j) (operands-is s rec (count s j) (child j) a) ∙ token-is s j o a.depth a h)

  values-plain : stores_token s j ≡ false → count s j ≤ max_args → call_values s (low_of rec) j a ≡ behind (Call.call_values s rec j) a
  unfolding call_values call_end Call.call_values
  values-plain t h =
      let o = Operands.operands s rec (count s j) (child j) (place a) a.depth a.pools in
      rw (t, call_end, Call.call_values)
      (ap (call_as s j 0 (field_b s j)) (operands-is s rec (count s j) (child j) a) ∙ as_is s j 0 (field_b s j) o a.depth a h)

  values-is : count s j ≤ max_args → call_values s (low_of rec) j a ≡ behind (Call.call_values s rec j) a
  values-is h = by (stores_token s j) refl
    where
      by : (t : Bool) → stores_token s j ≡ t → call_values s (low_of rec) j a ≡ behind (Call.call_values s rec j) a
      by true t = values-token t h
      by false t = values-plain t h

  -- with a namespace, the call's name at place i: the receiver is loaded first
  at-is : (i : ℕ) (r : Receiver) (o : Out) (d : ℕ) (x : Made)
      → ref_at i s j r (put o d x) ≡ put (Call.ref_at i s j r d o) (after (Op.CallRef i (count s j) r) 0 d) x
  unfolding ref_at Call.ref_at
  at-is i r o d x = put-emit (Op.CallRef i (count s j) r) (position s j) 0 o d x

  loaded-is : (load : Ops.Op) (x : Made) → after load 0 x.depth ≡ suc x.depth → 1 ≤ count s j
      → other_args s (low_of rec) j (emit load (position s (child j)) 0 x)
      ≡ put (Call.loaded_args load s rec j (place x) x.depth x.pools) (x.depth + count s j) x
  unfolding Call.loaded_args emit and_then
  loaded-is load x e g =
      let d = x.depth in
      let m = count s j in
      let i = ins load d (position s (child j)) in
      let y = put (and_then (out [] x.pools) (i ∷ [])) (suc d) x in
      let go : ℕ → Out = λ b. Call.other_args s rec j b (suc d) (emits 1 x.pools) in
      let first : emit load (position s (child j)) 0 x ≡ y = made-path refl refl e in
      let deep : suc d + (m - 1) ≡ d + m = omega arith in
      ap (other_args s (low_of rec) j) first
      ∙ others-is y
      ∙ ap (λ b. put (go b) (suc d + (m - 1)) y) (length-append x.code (i ∷ []))
      ∙ put-around (out [] x.pools) i (go (place x + 1)) (suc d) (suc d + (m - 1)) x
      ∙ made-path refl refl deep

  by-qualified : (f : First) (i : ℕ) → FirstSays s j f → count s j ≤ max_args
      → qualified_by f i s (low_of rec) j a ≡ behind (Call.lower_qualified_by f i s rec j) a
  unfolding qualified_by qualified_local qualified_this qualified_named qualified_values values_at load_first add_name Call.lower_qualified_by
      Call.qualified_local Call.qualified_this Call.qualified_named Call.qualified_values
  by-qualified (Call.local slot) i g h =
      let d = a.depth in
      ap (ref_at i s j (Local slot)) (others-is a)
      ∙ at-is i (Local slot) (Call.other_args s rec j (place a) d a.pools) (d + (count s j - 1)) a
      ∙ made-path refl refl (after-ref-local 0 d i (count s j) h slot)
  by-qualified Call.named i g h =
      let d = a.depth in
      let v = name (field_a s (child j)) 0 in
      let k = name_at s v a.pools in
      let x = add_name s v a in
      ap (ref_at i s j (Named k)) (loaded-is (Op.LoadNamed k) x (after-named 0 d k) g)
      ∙ at-is i (Named k) (Call.loaded_args (Op.LoadNamed k) s rec j (place a) d x.pools) (d + count s j) a
      ∙ made-path refl refl (after-ref-named 0 d i (count s j) h k)
  by-qualified Call.this i g h =
      let d = a.depth in
      ap (ref_at i s j This) (loaded-is Op.LoadThis a (after-this 0 d) g)
      ∙ at-is i This (Call.loaded_args Op.LoadThis s rec j (place a) d a.pools) (d + count s j) a
      ∙ made-path refl refl (after-ref-this 0 d i (count s j) h)
  by-qualified Call.value i g h =
      let d = a.depth in
      let m = count s j in
      let o = Operands.operands s rec m (child j) (place a) d a.pools in
      ap (emit (Op.Call i m 0 (field_b s j)) (position s j) 0) (operands-is s rec m (child j) a)
      ∙ put-emit (Op.Call i m 0 (field_b s j)) (position s j) 0 o (d + m) a
      ∙ made-path refl refl (after_call 0 d i m 0 (field_b s j) h)

  by_first : (f : First) → FirstSays s j f → count s j ≤ max_args → call_by f s (low_of rec) j a ≡ behind (Call.lower_call_by f s rec j) a
  unfolding call_by Call.lower_call_by
  by_first (Call.local slot) g h = local-is slot h
  by_first Call.named g h = named-call-is h g
  by_first Call.this g h = this-call-is h g
  by_first Call.value g h = values-is h

module _ (s : List ℕ) (rec : Rec) (j : ℕ) (a : Made) where
  lowerable-is : count s j ≤ max_args → call s (low_of rec) j a ≡ behind (Call.lower_call s rec j) a
  unfolding call call_qualified add_own add_name Call.lower_call Call.lower_qualified
  lowerable-is h = by (qualified s j) refl
    where
      n : Name
      n = own_name s j (field_b s j)

      by : (t : Bool) → qualified s j ≡ t → call s (low_of rec) j a ≡ behind (Call.lower_call s rec j) a
      by true q =
          rw (q, call, Call.lower_call)
          (by-qualified s rec j (add_name s n a) (receiver s j) (name_at s n a.pools) (first_says s j) h)
      by false q = rw (q, call, Call.lower_call) (by_first s rec j a (receiver s j) (first_says s j) h)

  by-call-rule : (r : CallRule) → RuleSays s j r → fn_call_by r s (low_of rec) j a ≡ behind (Call.fn_call_by r s rec j) a
  unfolding fn_call_by Call.fn_call_by defeated
  by-call-rule Call.fn_ptr h = make-is s rec j a
  by-call-rule Call.fn_ptr_call h = pointer_is s rec j a h.0
  by-call-rule Call.lowerable h = lowerable-is h
  by-call-rule Call.eval h = residual-is j (defeated a)
  by-call-rule Call.residual h = residual-is j a

  pub call-is : fn_call s (low_of rec) j a ≡ behind (Call.fn_call s rec j) a
  unfolding fn_call Call.fn_call
  call-is = by-call-rule (call_rule s j) (rule-says s j)
