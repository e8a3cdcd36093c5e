-- A call adds what its plan says, by each of its rules.
use Prim.Native.Nat.{ℕ, suc, ◌+◌, ◌-◌}
use mathlib.Core.Path.{◌≡◌, refl, sym, ap, ◌∙◌}
use mathlib.Core.Bool.{Bool, true, false, ◌||◌, or-false, or-true}
use mathlib.Core.List.{List, [], ◌∷◌}
use native.Mathlib.Omega.{arith}
use lib.Dec.{eqb}
use lib.ListN.{length}
use Rattle.sheet.specs.Node.{field_a, field_b, field_c, count, position, child, next}
use Rattle.sheet.specs.Namespace.{qualified}
use Rattle.bytecode.specs.declared.Receiver.{Receiver}
use Rattle.bytecode.specs.declared.Receiver.TheVariants.{Local, Named, This}
use Rattle.bytecode.specs.declared.Op.{Op}
use Rattle.bytecode.specs.declared.Op.TheVariants.{LoadNamed, LoadThis, Call, CallRef, MakeFnPtr, CallFnPtr}
use Rattle.lowering.specs.Code.{ins}
use Rattle.lowering.specs.Pools.{Pools, emits, defeat, name, own_name, name_at, push_name, token_at, push_token}
use Rattle.lowering.specs.Out.{Out, out, Rec, and_then, residual_expr}
use Rattle.lowering.specs.Operands.{operands}
use Rattle.lowering.specs.Call.{CallRule, First, call_rule, receiver, other_args, call_ref, call_local, call_this, call_named, rotate}
use Rattle.lowering.specs.Call.{stores_token, call_as, call_token, call_values, lower_call_by, make_fn_ptr, call_fn_ptr, fn_call_by, fn_call}
use Rattle.lowering.specs.Call.{ref_at, loaded_args, qualified_local, qualified_this, qualified_named, qualified_values, lower_qualified_by}
use Rattle.lowering.specs.Call.{lower_qualified, lower_call}
use Rattle.lowering.specs.Call as Call
use Rattle.expr_count.specs.declared.tallies.Tally.{Tally}
use Rattle.expr_count.specs.Tally.{instructions, evaluation, plus}
use Rattle.expr_count.proofs.TallyLaws.{tally-path, around}
use Rattle.expr_count.specs.Locals.{is_local}
use Rattle.expr_count.proofs.LocalLaws.{call_same}
use Rattle.expr_count.proofs.PlanLaws.{moves-none, moves-plain}
use Rattle.expr_count.specs.Plan as Plan
use Rattle.expr_count.specs.Count.{siblings, follow}
use Rattle.expr_count.specs.Count as Count
use Rattle.expr_count.proofs.Adds.{OutAdds, Counts, Alike, adds-emits, adds-seq, adds-length, adds-tally, adds-from, adds-into}
use Rattle.expr_count.proofs.SiblingsAdd.{operands-add, single-adds}
use Rattle.expr_count.proofs.PlanAdds.{name-alike, residual-adds, then-adds, alone-plan}

token-alike : (t : ℕ) (p : Pools) → Alike p (push_token t p)
unfolding push_token
token-alike t p = record { emitted-same = refl; defeated-same = refl }

-- instructions one after another
more-instructions : (u : Tally) (m n : ℕ) → plus (plus u (instructions m)) (instructions n) ≡ plus u (instructions (m + n))
unfolding plus instructions
more-instructions u m n = tally-path (omega arith) (omega arith) (or-false (u.defeated || false))

-- the call's name, and CallRef or Call
ref-adds : (s : List ℕ) (j : ℕ) (r : Receiver) (d : ℕ) {p : Pools} {t : Tally} (o : Out) → OutAdds p t o
    → OutAdds p (plus t (instructions 1)) (call_ref s j r d o)
unfolding call_ref
ref-adds s j r d o h =
    let n = name (field_a s j) 0 in
    let i = name_at s n o.pools in
    then-adds (out o.code (push_name s n o.pools)) (ins (CallRef i (count s j) r) d (position s j) ∷ [])
    (adds-into (name-alike s (name (field_a s j) 0) o.pools) h)

as-adds : (s : List ℕ) (j op capture d : ℕ) {p : Pools} {t : Tally} (o : Out) → OutAdds p t o
    → OutAdds p (plus t (instructions 1)) (call_as s j op capture d o)
unfolding call_as
as-adds s j op capture d o h =
    let n = name (field_a s j) capture in
    let i = name_at s n o.pools in
    then-adds (out o.code (push_name s n o.pools)) (ins (Call i (count s j) op capture) (d + count s j) (position s j) ∷ [])
    (adds-into (name-alike s (name (field_a s j) capture) o.pools) h)

token-adds : (s : List ℕ) (j d : ℕ) {p : Pools} {t : Tally} (o : Out) → OutAdds p t o
    → OutAdds p (plus t (instructions 1)) (call_token s j d o)
unfolding call_token
token-adds s j d o h =
    let t = field_c s j in
    as-adds s j (suc (token_at t o.pools)) 0 d (out o.code (push_token t o.pools)) (adds-into (token-alike t o.pools) h)

rotate-length : (others d : ℕ) → length (rotate others d) ≡ Plan.rotates others
unfolding rotate Plan.rotates
rotate-length others d = by (eqb others 0) refl
  where
    by : (t : Bool) → eqb others 0 ≡ t → length (rotate others d) ≡ Plan.rotates others
    by true e = rw (e, rotate, Plan.rotates)
    by false e = rw (e, rotate, Plan.rotates)

module _ (s : List ℕ) (rec : Rec) (t : Count.Rec) (C : Counts rec t) (j : ℕ) where
  others-add : (b d : ℕ) (p : Pools) → OutAdds p (siblings s t 0 (count s j - 1) (next s (child j))) (other_args s rec j b d p)
  unfolding other_args
  others-add b d p = operands-add s rec t C (count s j - 1) (next s (child j)) b d p

  -- a call with a namespace, whose name is at place i: the receiver is loaded first
  at-adds : (i : ℕ) (r : Receiver) (d : ℕ) {p : Pools} {u : Tally} (o : Out) → OutAdds p u o
      → OutAdds p (plus u (instructions 1)) (ref_at i s j r d o)
  unfolding ref_at
  at-adds i r d o h = then-adds o (ins (CallRef i (count s j) r) d (position s j) ∷ []) h

  loaded-adds : (load : Op) (b d : ℕ) (p : Pools)
      → OutAdds p (plus (instructions 1) (siblings s t 0 (count s j - 1) (next s (child j)))) (loaded_args load s rec j b d p)
  unfolding loaded_args
  loaded-adds load b d p = adds-length (omega arith) (adds-seq (adds-emits 1 p) (others-add (b + 1) (suc d) (emits 1 p)))

  by-qualified : (f : First) (i b d : ℕ) (p : Pools) → qualified s j ≡ true
      → OutAdds p (follow (Plan.call_by f s j) s t j) (lower_qualified_by f i s rec j b d p)
  unfolding Plan.call_by Plan.other_args Plan.all_args follow lower_qualified_by qualified_local qualified_this qualified_named qualified_values
  by-qualified (Call.local slot) i b d p q = at-adds i (Local slot) (d + (count s j - 1)) (other_args s rec j b d p) (others-add b d p)
  by-qualified Call.named i b d p q =
      let v = name (field_a s (child j)) 0 in
      let k = name_at s v p in
      let o = loaded_args (LoadNamed k) s rec j b d (push_name s v p) in
      rw (moves-none s j q)
      (adds-tally (around (siblings s t 0 (count s j - 1) (next s (child j))))
      (at-adds i (Named k) (d + count s j) o (adds-from (name-alike s v p) (loaded-adds (LoadNamed k) b d (push_name s v p)))))
  by-qualified Call.this i b d p q =
      adds-tally (around (siblings s t 0 (count s j - 1) (next s (child j))))
      (at-adds i This (d + count s j) (loaded_args LoadThis s rec j b d p) (loaded-adds LoadThis b d p))
  by-qualified Call.value i b d p q =
      then-adds (operands s rec (count s j) (child j) b d p)
      (ins (Call i (count s j) 0 (field_b s j)) (d + count s j) (position s j) ∷ [])
      (operands-add s rec t C (count s j) (child j) b d p)

  module _ (b d : ℕ) (p : Pools) where
    make-adds : OutAdds p (follow (Plan.make_fn_ptr j) s t j) (make_fn_ptr s rec j b d p)
    unfolding Plan.make_fn_ptr make_fn_ptr follow
    make-adds = then-adds (rec (child j) b d p) (ins MakeFnPtr (suc d) (position s (child j)) ∷ []) (single-adds s rec t C (child j) b d p)

    pointer-adds : OutAdds p (follow (Plan.all_args s j) s t j) (call_fn_ptr s rec j b d p)
    unfolding Plan.all_args call_fn_ptr follow
    pointer-adds =
        then-adds (operands s rec (count s j) (child j) b d p)
        (ins (CallFnPtr (count s j - 1) (field_b s j)) (d + count s j) (position s j) ∷ [])
        (operands-add s rec t C (count s j) (child j) b d p)

    local-adds : (slot : ℕ) → OutAdds p (follow (Plan.other_args s j 1) s t j) (call_local s rec slot j b d p)
    unfolding Plan.other_args call_local follow
    local-adds slot = ref-adds s j (Local slot) (d + (count s j - 1)) (other_args s rec j b d p) (others-add b d p)

    this-call-adds : OutAdds p (follow (Plan.other_args s j 2) s t j) (call_this s rec j b d p)
    unfolding Plan.other_args call_this follow
    this-call-adds =
        let r = other_args s rec j (b + 1) (suc d) (emits 1 p) in
        let h = adds-seq (adds-emits 1 p) (others-add (b + 1) (suc d) (emits 1 p)) in
        adds-tally (around (siblings s t 0 (count s j - 1) (next s (child j))))
        (ref-adds s j This (d + count s j) (out (ins LoadThis d (position s (child j)) ∷ r.code) r.pools) (adds-length (omega arith) h))

    named-call-adds : OutAdds p (follow (Plan.other_args s j (2 + Plan.rotates (count s j - 1))) s t j) (call_named s rec j b d p)
    unfolding Plan.other_args call_named follow
    named-call-adds =
        let v = name (field_a s (child j)) 0 in
        let i = name_at s v p in
        let others = count s j - 1 in
        let o = other_args s rec j b d (push_name s v p) in
        let load = ins (LoadNamed i) (d + others) (position s (child j)) ∷ rotate others (d + count s j) in
        let u = siblings s t 0 others (next s (child j)) in
        let l : length load + 1 ≡ 2 + Plan.rotates others = omega (arith, rotate-length others (d + count s j)) in
        adds-tally (more-instructions u (length load) 1 ∙ ap (λ n. plus u (instructions n)) l)
        (ref-adds s j (Named i) (d + count s j) (and_then o load)
        (then-adds o load (adds-from (name-alike s (name (field_a s (child j)) 0) p) (others-add b d (push_name s v p)))))

    values-token : stores_token s j ≡ true → OutAdds p (follow (Plan.all_args s j) s t j) (call_values s rec j b d p)
    unfolding Plan.all_args call_values follow
    values-token h =
        rw (h, call_values)
        (token-adds s j d (operands s rec (count s j) (child j) b d p) (operands-add s rec t C (count s j) (child j) b d p))

    values-plain : stores_token s j ≡ false → OutAdds p (follow (Plan.all_args s j) s t j) (call_values s rec j b d p)
    unfolding Plan.all_args call_values follow
    values-plain h =
        rw (h, call_values)
        (as-adds s j 0 (field_b s j) d (operands s rec (count s j) (child j) b d p) (operands-add s rec t C (count s j) (child j) b d p))

    values-add : OutAdds p (follow (Plan.all_args s j) s t j) (call_values s rec j b d p)
    values-add = by (stores_token s j) refl
      where
        by : (x : Bool) → stores_token s j ≡ x → OutAdds p (follow (Plan.all_args s j) s t j) (call_values s rec j b d p)
        by true h = values-token h
        by false h = values-plain h

    eval-adds : OutAdds p evaluation (residual_expr j d (defeat p))
    unfolding evaluation defeat instructions
    eval-adds =
        let h = residual-adds j d (defeat p) in
        record { length-is = h.length-is; emitted-is = h.emitted-is; defeated-is = h.defeated-is ∙ sym (or-true p.defeated) }

    by_first : (f : First) → qualified s j ≡ false → OutAdds p (follow (Plan.call_by f s j) s t j) (lower_call_by f s rec j b d p)
    unfolding Plan.call_by lower_call_by
    by_first (Call.local slot) q = local-adds slot
    by_first Call.named q = rw (moves-plain s j q) named-call-adds
    by_first Call.this q = this-call-adds
    by_first Call.value q = values-add

    -- with a namespace
    lowerable-adds : OutAdds p (follow (Plan.call_by (receiver s j) s j) s t j) (lower_call s rec j b d p)
    unfolding lower_call lower_qualified
    lowerable-adds = by (qualified s j) refl
      where
        by : (x : Bool) → qualified s j ≡ x → OutAdds p (follow (Plan.call_by (receiver s j) s j) s t j) (lower_call s rec j b d p)
        by true q =
            let n = own_name s j (field_b s j) in
            rw (q, lower_call) (adds-from (name-alike s n p) (by-qualified (receiver s j) (name_at s n p) b d (push_name s n p) q))
        by false q = rw (q, lower_call) (by_first (receiver s j) q)

    by-call-rule : (r : CallRule) → OutAdds p (follow (Plan.fn_call_by (is_local s) r s j) s t j) (fn_call_by r s rec j b d p)
    unfolding Plan.fn_call_by fn_call_by
    by-call-rule Call.fn_ptr = make-adds
    by-call-rule Call.fn_ptr_call = pointer-adds
    by-call-rule Call.lowerable = adds-tally (ap (λ q. follow q s t j) (sym (call_same s j))) lowerable-adds
    by-call-rule Call.eval = alone-plan s t j eval-adds
    by-call-rule Call.residual = alone-plan s t j (residual-adds j d p)

    pub call-adds : OutAdds p (follow (Plan.fn_call (is_local s) s j) s t j) (fn_call s rec j b d p)
    unfolding Plan.fn_call fn_call
    call-adds = by-call-rule (call_rule s j)
