-- Two lowerings of nodes that agree on every node with P: each construct over such nodes is lowered alike.
use Prim.Native.Nat.{ℕ, zero, suc, ◌+◌, ◌-◌, ◌≤◌, ◌<◌}
use mathlib.Core.Path.{◌≡◌, refl, ap, ◌∙◌}
use mathlib.Core.Bool.{Bool, true, false}
use mathlib.Core.List.{List, [], ◌∷◌, ◌++◌}
use native.Mathlib.Omega.{arith}
use lib.Dec.{leb}
use lib.ListN.{length}
use Rattle.sheet.specs.Node.{count, field_a, field_b, position, child, next}
use Rattle.sheet.specs.Walk.{skip}
use Rattle.sheet.specs.Namespace.{qualified}
use Rattle.bytecode.specs.declared.Op.{Op}
use Rattle.bytecode.specs.declared.Op.TheVariants.{CheckSize, InterpolateAppend, InterpolateStart, InterpolateEnd, MakeArray, MakeFnPtr}
use Rattle.bytecode.specs.declared.Op.TheVariants.{Call as CallOp, CallFnPtr, LoadNamed, LoadThis}
use Rattle.bytecode.specs.declared.Receiver.TheVariants.{Local, Named, This}
use Rattle.lowering.specs.Limits.{max_elements}
use Rattle.lowering.specs.Code.{ins, no_pos}
use Rattle.lowering.specs.Pools.{Pools, Name, emits, name, own_name, name_at, push_name}
use Rattle.lowering.specs.Out.{Out, out, Rec, and_then, residual_expr}
use Rattle.lowering.specs.Operands.{operands}
use Rattle.lowering.specs.Array.{elements, array}
use Rattle.lowering.specs.Interpolated.{segments, interpolated}
use Rattle.lowering.specs.ShortCircuit.{Fragments, fragments, short_circuit, extent, decided, jump_on, decision}
use Rattle.lowering.specs.Coalesce.{coalesce, skipped}
use Rattle.lowering.specs.Call as Call
use Rattle.lowering.proofs.LinkedCall.{Takes}

-- n siblings from j on have P
pub record Each (s : List ℕ) (P : ℕ → Type 0) (n j : ℕ) : Type 0 where
  pub each : (i : ℕ) → i < n → P (skip s i j)

pub record Agree (P : ℕ → Type 0) (rec rec' : Rec) : Type 0 where
  pub at : (j b d : ℕ) (p : Pools) → P j → rec j b d p ≡ rec' j b d p

each_first : {s : List ℕ} {P : ℕ → Type 0} {n j : ℕ} → Each s P (suc n) j → P j
unfolding skip
each_first a = a.each 0 (omega arith)

each-rest : {s : List ℕ} {P : ℕ → Type 0} {n j : ℕ} → Each s P (suc n) j → Each s P n (next s j)
unfolding skip
each-rest a = record { each = λ i h. a.each (suc i) (omega arith) }

each-less : {s : List ℕ} {P : ℕ → Type 0} {m n j : ℕ} → m ≤ n → Each s P n j → Each s P m j
each-less h a = record { each = λ i k. a.each i (omega arith) }

-- all but the first, if there is one
each-others : (s : List ℕ) (P : ℕ → Type 0) (n j : ℕ) → Each s P n j → Each s P (n - 1) (next s j)
each-others s P zero j a = record { each = λ i h. absurd (omega arith) }
each-others s P (suc n) j a = each-less (omega arith) (each-rest a)

module _ (s : List ℕ) {P : ℕ → Type 0} {rec rec' : Rec} (A : Agree P rec rec') where
  -- ---- siblings

  pub operands_same : (n j b d : ℕ) (p : Pools) → Each s P n j → operands s rec n j b d p ≡ operands s rec' n j b d p
  unfolding operands
  operands_same zero j b d p a = refl
  operands_same (suc n) j b d p a =
      let o = rec' j b d p in
      let more : Out → Out = λ o. operands s rec n (next s j) (b + length o.code) (suc d) o.pools in
      ap (λ (o : Out). out (o.code ++ (more o).code) (more o).pools) (A.at j b d p (each_first a))
      ∙ ap (λ (r : Out). out (o.code ++ r.code) r.pools)
      (operands_same n (next s j) (b + length o.code) (suc d) o.pools (each-rest a))

  elements_same : (n i j b d : ℕ) (p : Pools) → Each s P n j → elements s rec n i j b d p ≡ elements s rec' n i j b d p
  unfolding elements
  elements_same zero i j b d p a = refl
  elements_same (suc n) i j b d p a =
      let o = rec' j b d p in
      let check = ins (CheckSize i) (suc d) (position s j) in
      let more : Out → Out = λ o. elements s rec n (suc i) (next s j) (b + length o.code + 1) (suc d) (emits 1 o.pools) in
      ap (λ (o : Out). out (o.code ++ (check ∷ (more o).code)) (more o).pools) (A.at j b d p (each_first a))
      ∙ ap (λ (r : Out). out (o.code ++ (check ∷ r.code)) r.pools)
      (elements_same n (suc i) (next s j) (b + length o.code + 1) (suc d) (emits 1 o.pools) (each-rest a))

  segments-same : (n j b d : ℕ) (p : Pools) → Each s P n j → segments s rec n j b d p ≡ segments s rec' n j b d p
  unfolding segments
  segments-same zero j b d p a = refl
  segments-same (suc n) j b d p a =
      let o = rec' j b d p in
      let append = ins InterpolateAppend (suc d) (position s j) in
      let more : Out → Out = λ o. segments s rec n (next s j) (b + length o.code + 1) d (emits 1 o.pools) in
      ap (λ (o : Out). out (o.code ++ (append ∷ (more o).code)) (more o).pools) (A.at j b d p (each_first a))
      ∙ ap (λ (r : Out). out (o.code ++ (append ∷ r.code)) r.pools)
      (segments-same n (next s j) (b + length o.code + 1) d (emits 1 o.pools) (each-rest a))

  fragments-same : (gap n j b d : ℕ) (p : Pools) → Each s P n j → fragments s rec gap n j b d p ≡ fragments s rec' gap n j b d p
  unfolding fragments
  fragments-same gap zero j b d p a = refl
  fragments-same gap (suc n) j b d p a =
      let o = rec' j b d p in
      let more : Out → Fragments = λ o. fragments s rec gap n (next s j) (b + length o.code + gap) d (emits gap o.pools) in
      ap (λ (o : Out). with o (more o)) (A.at j b d p (each_first a))
      ∙ ap (with o) (fragments-same gap n (next s j) (b + length o.code + gap) d (emits gap o.pools) (each-rest a))
    where
      with : Out → Fragments → Fragments
      with o r = record { parts = record { code = o.code; pos = position s j } ∷ r.parts; pools = r.pools }

  -- ---- constructs

  pub array_same : (j b d : ℕ) (p : Pools) → Each s P (count s j) (child j) → array s rec j b d p ≡ array s rec' j b d p
  unfolding array
  array_same j b d p a =
      let make = ins (MakeArray (count s j)) (d + count s j) (position s j) in
      ap (λ (o : Out). elim (leb (count s j) max_elements) [ true ↦ and_then o (make ∷ []) | false ↦ residual_expr j d p ])
      (elements_same (count s j) 0 (child j) b d p a)

  pub interpolated-same : (j b d : ℕ) (p : Pools) → Each s P (count s j) (child j)
      → interpolated s rec j b d p ≡ interpolated s rec' j b d p
  unfolding interpolated
  interpolated-same j b d p a =
      ap (λ (r : Out). and_then (out (ins InterpolateStart d no_pos ∷ r.code) r.pools) (ins InterpolateEnd (suc d) no_pos ∷ []))
      (segments-same (count s j) (child j) (b + 1) (suc d) (emits 1 p) a)

  pub short-same : (stop j b d : ℕ) (p : Pools) → Each s P (count s j) (child j)
      → short_circuit stop s rec j b d p ≡ short_circuit stop s rec' j b d p
  unfolding short_circuit
  short-same stop j b d p a =
      let e : Fragments → ℕ = λ r. b + extent 1 r.parts in
      ap (λ (r : Fragments). out (decided (jump_on stop (e r + 2)) d r.parts ++ decision stop (e r) d) (emits 3 r.pools))
      (fragments-same 1 (count s j) (child j) b d p a)

  pub coalesce-same : (j b d : ℕ) (p : Pools) → 1 ≤ count s j → Each s P (count s j) (child j)
      → coalesce s rec j b d p ≡ coalesce s rec' j b d p
  unfolding coalesce
  coalesce-same j b d p h a =
      let n = count s j - 1 in
      let r = fragments s rec' 2 n (child j) b d p in
      let z = skip s n (child j) in
      ap (λ (r : Fragments). joined r (rec z (b + extent 2 r.parts) d r.pools))
      (fragments-same 2 n (child j) b d p (each-less (omega arith) a))
      ∙ ap (joined r) (A.at z (b + extent 2 r.parts) d r.pools (a.each n (omega arith)))
    where
      joined : Fragments → Out → Out
      joined r o = out (skipped (b + extent 2 r.parts + length o.code) d r.parts ++ o.code) o.pools

  -- ---- calls

  others_same : (j b d : ℕ) (p : Pools) → Each s P (count s j) (child j) → Call.other_args s rec j b d p ≡ Call.other_args s rec' j b d p
  unfolding Call.other_args
  others_same j b d p a = operands_same (count s j - 1) (next s (child j)) b d p (each-others s P (count s j) (child j) a)

  lower-same : (r : Call.First) (j b d : ℕ) (p : Pools) → Each s P (count s j) (child j)
      → Call.lower_call_by r s rec j b d p ≡ Call.lower_call_by r s rec' j b d p
  unfolding Call.lower_call_by Call.call_local Call.call_named Call.call_this Call.call_values
  lower-same (Call.local slot) j b d p a = ap (Call.call_ref s j (Local slot) (d + (count s j - 1))) (others_same j b d p a)
  lower-same Call.named j b d p a =
      let v = name (field_a s (child j)) 0 in
      let i = name_at s v p in
      let others = count s j - 1 in
      let load = ins (LoadNamed i) (d + others) (position s (child j)) in
      ap (λ (o : Out). Call.call_ref s j (Named i) (d + count s j) (and_then o (load ∷ Call.rotate others (d + count s j))))
      (others_same j b d (push_name s v p) a)
  lower-same Call.this j b d p a =
      ap (λ (r : Out). Call.call_ref s j This (d + count s j) (out (ins LoadThis d (position s (child j)) ∷ r.code) r.pools))
      (others_same j (b + 1) (suc d) (emits 1 p) a)
  lower-same Call.value j b d p a =
      ap (λ (o : Out). elim (Call.stores_token s j) [ true ↦ Call.call_token s j d o | false ↦ Call.call_as s j 0 (field_b s j) d o ])
      (operands_same (count s j) (child j) b d p a)

  loaded-same : (load : Op) (j b d : ℕ) (p : Pools) → Each s P (count s j) (child j)
      → Call.loaded_args load s rec j b d p ≡ Call.loaded_args load s rec' j b d p
  unfolding Call.loaded_args
  loaded-same load j b d p a =
      ap (λ (r : Out). out (ins load d (position s (child j)) ∷ r.code) r.pools) (others_same j (b + 1) (suc d) (emits 1 p) a)

  qualified-same : (r : Call.First) (i j b d : ℕ) (p : Pools) → Each s P (count s j) (child j)
      → Call.lower_qualified_by r i s rec j b d p ≡ Call.lower_qualified_by r i s rec' j b d p
  unfolding Call.lower_qualified_by Call.qualified_local Call.qualified_named Call.qualified_this Call.qualified_values
  qualified-same (Call.local slot) i j b d p a = ap (Call.ref_at i s j (Local slot) (d + (count s j - 1))) (others_same j b d p a)
  qualified-same Call.named i j b d p a =
      let v = name (field_a s (child j)) 0 in
      let k = name_at s v p in
      ap (Call.ref_at i s j (Named k) (d + count s j)) (loaded-same (LoadNamed k) j b d (push_name s v p) a)
  qualified-same Call.this i j b d p a = ap (Call.ref_at i s j This (d + count s j)) (loaded-same LoadThis j b d p a)
  qualified-same Call.value i j b d p a =
      ap (λ (o : Out). and_then o (ins (CallOp i (count s j) 0 (field_b s j)) (d + count s j) (position s j) ∷ []))
      (operands_same (count s j) (child j) b d p a)

  lower_call-same : (j b d : ℕ) (p : Pools) → Each s P (count s j) (child j)
      → Call.lower_call s rec j b d p ≡ Call.lower_call s rec' j b d p
  unfolding Call.lower_call Call.lower_qualified
  lower_call-same j b d p a = by (qualified s j)
    where
      n : Name
      n = own_name s j (field_b s j)

      of : Rec → Bool → Out
      of r t = elim t [
        | true ↦ Call.lower_qualified s r j b d p
        | false ↦ Call.lower_call_by (Call.receiver s j) s r j b d p
      ]

      by : (t : Bool) → of rec t ≡ of rec' t
      by true = qualified-same (Call.receiver s j) (name_at s n p) j b d (push_name s n p) a
      by false = lower-same (Call.receiver s j) j b d p a

  by-same : (c : Call.CallRule) (j b d : ℕ) (p : Pools) → Takes c (count s j) → Each s P (count s j) (child j)
      → Call.fn_call_by c s rec j b d p ≡ Call.fn_call_by c s rec' j b d p
  unfolding Call.fn_call_by Call.make_fn_ptr Call.call_fn_ptr
  by-same Call.fn_ptr j b d p h a =
      ap (λ (o : Out). and_then o (ins MakeFnPtr (suc d) (position s (child j)) ∷ []))
      (A.at (child j) b d p (each_first {n = 0} (each-less h a)))
  by-same Call.fn_ptr_call j b d p h a =
      ap (λ (o : Out). and_then o (ins (CallFnPtr (count s j - 1) (field_b s j)) (d + count s j) (position s j) ∷ []))
      (operands_same (count s j) (child j) b d p a)
  by-same Call.lowerable j b d p h a = lower_call-same j b d p a
  by-same Call.eval j b d p h a = refl
  by-same Call.residual j b d p h a = refl

  pub call_same : (j b d : ℕ) (p : Pools) → Takes (Call.call_rule s j) (count s j) → Each s P (count s j) (child j)
      → Call.fn_call s rec j b d p ≡ Call.fn_call s rec' j b d p
  unfolding Call.fn_call
  call_same j b d p h a = by-same (Call.call_rule s j) j b d p h a
