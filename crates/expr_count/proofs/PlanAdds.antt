-- Each construct but a call and a chain adds what its plan says.
use Prim.Native.Nat.{ℕ, suc, ◌+◌, ◌-◌}
use mathlib.Core.Path.{◌≡◌, refl, sym, ap, ◌∙◌}
use mathlib.Core.Bool.{Bool, true, false}
use mathlib.Core.Option.{Option, none, some}
use mathlib.Core.List.{List, [], ◌∷◌, ◌++◌}
use native.Mathlib.Omega.{arith}
use lib.Dec.{leb}
use lib.ListN.{length, length-append}
use Rattle.lowering.proofs.SoundCoalesce.{skipped-length}
use Rattle.lowering.proofs.SoundShortCircuit.{decided-length}
use Rattle.sheet.specs.Node.{field_a, count, position, child, namespace_pos}
use Rattle.sheet.specs.Text.{text}
use Rattle.sheet.specs.Namespace.{qualified}
use Rattle.sheet.specs.Walk.{skip}
use Rattle.bytecode.specs.declared.Op.{Op}
use Rattle.bytecode.specs.declared.Op.TheVariants.{MakeArray, InterpolateStart, InterpolateEnd}
use Rattle.lowering.specs.Limits.{max_elements}
use Rattle.lowering.specs.Code.{Code, ins, no_pos}
use Rattle.lowering.specs.Pools.{Pools, Name, const_of, emits, push_const, name, own_name, push_name, push_residual}
use Rattle.lowering.specs.Out.{Out, out, Rec, and_then, emit_at, residual_expr}
use Rattle.lowering.specs.Slots.{resolve}
use Rattle.lowering.specs.Leaf as Leaf
use Rattle.lowering.specs.Array as Array
use Rattle.lowering.specs.Interpolated as Interpolated
use Rattle.lowering.specs.ShortCircuit.{fragments, extent, decided, jump_on, decision}
use Rattle.lowering.specs.ShortCircuit as ShortCircuit
use Rattle.lowering.specs.Coalesce.{skipped}
use Rattle.lowering.specs.Coalesce as Coalesce
use Rattle.expr_count.specs.declared.tallies.Tally.{Tally}
use Rattle.expr_count.specs.Tally.{instructions, plus}
use Rattle.expr_count.proofs.TallyLaws.{nothing-plus, around}
use Rattle.expr_count.specs.Plan as Plan
use Rattle.expr_count.specs.Count.{siblings, follow, coalesce}
use Rattle.expr_count.specs.Count as Count
use Rattle.expr_count.proofs.Adds.{Adds, OutAdds, Counts, Alike, adds-emits, adds-seq, adds-length, adds-tally, adds-from}
use Rattle.expr_count.proofs.SiblingsAdd.{elements-add, segments-add, fragments-add}

-- ---- pools that take something up

const-alike : (s : List ℕ) (j : ℕ) (p : Pools) → Alike p (push_const s (const_of s j) p)
unfolding push_const
const-alike s j p = record { emitted-same = refl; defeated-same = refl }

pub name-alike : (s : List ℕ) (n : Name) (p : Pools) → Alike p (push_name s n p)
unfolding push_name
name-alike s n p = record { emitted-same = refl; defeated-same = refl }

residual-alike : (j : ℕ) (p : Pools) → Alike p (push_residual j p)
unfolding push_residual
residual-alike j p = record { emitted-same = refl; defeated-same = refl }

-- ---- one instruction

emit-adds : (op : Op) (pos d : ℕ) (p : Pools) → OutAdds p (instructions 1) (emit_at op pos d p)
unfolding emit_at
emit-adds op pos d p = adds-emits 1 p

pub residual-adds : (j d : ℕ) (p : Pools) → OutAdds p (instructions 1) (residual_expr j d p)
unfolding residual_expr
residual-adds j d p = adds-from (residual-alike j p) (emit-adds _ no_pos d (push_residual j p))

-- o, then the instructions c
pub then-adds : {p : Pools} {t : Tally} (o : Out) (c : Code) → OutAdds p t o → OutAdds p (plus t (instructions (length c))) (and_then o c)
unfolding and_then
then-adds o c h = adds-length (length-append o.code c) (adds-seq h (adds-emits (length c) o.pools))

-- without operands
pub alone-plan : (s : List ℕ) (t : Count.Rec) (j : ℕ) {p q : Pools} {u : Tally} {n : ℕ} → Adds p u n q
    → Adds p (follow (Plan.alone u) s t j) n q
unfolding follow siblings
alone-plan s t j {u} h = adds-tally (sym (nothing-plus u)) h

module _ (s : List ℕ) (t : Count.Rec) (j d : ℕ) (p : Pools) where
  pub boolean-adds : OutAdds p (follow Plan.one s t j) (Leaf.boolean s j d p)
  unfolding Leaf.boolean
  boolean-adds = alone-plan s t j (emit-adds _ no_pos d p)

  pub unit-adds : OutAdds p (follow Plan.one s t j) (Leaf.unit d p)
  unfolding Leaf.unit
  unit-adds = alone-plan s t j (emit-adds _ no_pos d p)

  pub constant-adds : OutAdds p (follow Plan.one s t j) (Leaf.constant s j d p)
  unfolding Leaf.constant
  constant-adds = alone-plan s t j (adds-from (const-alike s j p) (emit-adds _ no_pos d (push_const s (const_of s j) p)))

  pub this-adds : OutAdds p (follow Plan.one s t j) (Leaf.this s j d p)
  unfolding Leaf.this
  this-adds = alone-plan s t j (emit-adds _ (position s j) d p)

  named-adds : OutAdds p (instructions 1) (Leaf.load_named s j d p)
  unfolding Leaf.load_named
  named-adds = adds-from (name-alike s (name (field_a s j) 0) p) (emit-adds _ (position s j) d (push_name s (name (field_a s j) 0) p))

  plain-adds : OutAdds p (follow Plan.one s t j) (Leaf.load_plain s j d p)
  unfolding Leaf.load_plain
  plain-adds = by (resolve s (text s (field_a s j))) refl
    where
      by : (f : Option ℕ) → resolve s (text s (field_a s j)) ≡ f → OutAdds p (follow Plan.one s t j) (Leaf.load_plain s j d p)
      by (some slot) e = rw (e, Leaf.load_plain) (alone-plan s t j (emit-adds _ no_pos d p))
      by none e = rw (e, Leaf.load_plain) (alone-plan s t j named-adds)

  qualified-adds : OutAdds p (follow Plan.one s t j) (Leaf.load_qualified s j d p)
  unfolding Leaf.load_qualified
  qualified-adds =
      let n = own_name s j 0 in
      alone-plan s t j (adds-from (name-alike s n p) (emit-adds _ (namespace_pos s j) d (push_name s n p)))

  pub variable-adds : OutAdds p (follow Plan.one s t j) (Leaf.variable s j d p)
  unfolding Leaf.variable
  variable-adds = by (qualified s j) refl
    where
      by : (q : Bool) → qualified s j ≡ q → OutAdds p (follow Plan.one s t j) (Leaf.variable s j d p)
      by true e = rw (e, Leaf.variable) qualified-adds
      by false e = rw (e, Leaf.variable) plain-adds

module _ (s : List ℕ) (rec : Rec) (t : Count.Rec) (C : Counts rec t) (j b d : ℕ) (p : Pools) where
  -- ---- Array

  array-lowers : leb (count s j) max_elements ≡ true → OutAdds p (follow (Plan.array s j) s t j) (Array.array s rec j b d p)
  unfolding Plan.array Array.array follow
  array-lowers h =
      rw (h, Plan.array, Array.array)
      (then-adds (Array.elements s rec (count s j) 0 (child j) b d p) (ins (MakeArray (count s j)) (d + count s j) (position s j) ∷ [])
      (elements-add s rec t C (count s j) 0 (child j) b d p))

  array-stays : leb (count s j) max_elements ≡ false → OutAdds p (follow (Plan.array s j) s t j) (Array.array s rec j b d p)
  unfolding Plan.array Array.array
  array-stays h = rw (h, Plan.array, Array.array) (alone-plan s t j (residual-adds j d p))

  pub array-adds : OutAdds p (follow (Plan.array s j) s t j) (Array.array s rec j b d p)
  array-adds = by (leb (count s j) max_elements) refl
    where
      by : (l : Bool) → leb (count s j) max_elements ≡ l → OutAdds p (follow (Plan.array s j) s t j) (Array.array s rec j b d p)
      by true h = array-lowers h
      by false h = array-stays h

  -- ---- Interpolated

  pub interpolated-adds : OutAdds p (follow (Plan.interpolated s j) s t j) (Interpolated.interpolated s rec j b d p)
  unfolding Plan.interpolated Interpolated.interpolated follow
  interpolated-adds =
      let r = Interpolated.segments s rec (count s j) (child j) (b + 1) (suc d) (emits 1 p) in
      let h = adds-seq (adds-emits 1 p) (segments-add s rec t C (count s j) (child j) (b + 1) (suc d) (emits 1 p)) in
      adds-tally (around (siblings s t 1 (count s j) (child j)))
      (then-adds (out (ins InterpolateStart d no_pos ∷ r.code) r.pools) (ins InterpolateEnd (suc d) no_pos ∷ [])
      (adds-length (omega arith) h))

  -- ---- And, Or

  pub short-adds : (stop : ℕ) → OutAdds p (follow (Plan.short_circuit s j) s t j) (ShortCircuit.short_circuit stop s rec j b d p)
  unfolding Plan.short_circuit ShortCircuit.short_circuit follow decision
  short-adds stop =
      let r = fragments s rec 1 (count s j) (child j) b d p in
      let e = b + extent 1 r.parts in
      let l : length (decided (jump_on stop (e + 2)) d r.parts ++ decision stop e d) ≡ extent 1 r.parts + 3 =
      length-append (decided (jump_on stop (e + 2)) d r.parts) (decision stop e d)
      ∙ ap (λ n. n + 3) (decided-length (jump_on stop (e + 2)) d r.parts) in
      adds-length l (adds-seq (fragments-add s rec t C 1 (count s j) (child j) b d p) (adds-emits 3 r.pools))

  -- ---- Coalesce

  pub coalesce-adds : OutAdds p (coalesce s t j) (Coalesce.coalesce s rec j b d p)
  unfolding coalesce Coalesce.coalesce
  coalesce-adds =
      let n = count s j - 1 in
      let r = fragments s rec 2 n (child j) b d p in
      let e = b + extent 2 r.parts in
      let v = skip s n (child j) in
      let o = rec v e d r.pools in
      let l : length (skipped (e + length o.code) d r.parts ++ o.code) ≡ extent 2 r.parts + length o.code =
      length-append (skipped (e + length o.code) d r.parts) o.code
      ∙ ap (λ n. n + length o.code) (skipped-length (e + length o.code) d r.parts) in
      adds-length l (adds-seq (fragments-add s rec t C 2 n (child j) b d p) (C.each v e d r.pools))
