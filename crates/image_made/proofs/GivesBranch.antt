-- Siblings, arrays, interpolated strings, And, Or and Coalesce give good pools and instructions that name what is there, if their operands
-- do.
use Prim.Native.Nat.{ℕ, zero, suc, ◌+◌, ◌-◌, ◌≤◌}
use mathlib.Core.Path.{◌≡◌, refl}
use mathlib.Core.Bool as Truth
use mathlib.Core.Bool.{true, false}
use mathlib.Core.List.{List, [], ◌∷◌, ◌++◌}
use native.Mathlib.Omega.{arith}
use borrow.Author.Tests.{leb-true}
use lib.Dec.{leb}
use lib.ListN.{length}
use Rattle.sheet.specs.Node.{position, count, child, next}
use Rattle.sheet.specs.Walk.{skip}
use Rattle.bytecode.specs.declared.Op.{Op}
use Rattle.bytecode.specs.declared.Op.TheVariants as Ops
use Rattle.lowering.specs.Limits.{max_elements}
use Rattle.lowering.specs.Code.{Ins, Code, ins, no_pos}
use Rattle.lowering.specs.Pools.{Pools, emits}
use Rattle.lowering.specs.Out.{Rec, out}
use Rattle.lowering.specs.Operands.{operands}
use Rattle.lowering.specs.Array.{elements, array}
use Rattle.lowering.specs.Interpolated.{segments, interpolated}
use Rattle.lowering.specs.ShortCircuit.{Fragment, fragments, extent, decided, jump_on, decision, short_circuit}
use Rattle.lowering.specs.Coalesce.{skipped, coalesce}
use Rattle.lowering.specs.Nodes.{Valid, Row}
use Rattle.lowering.proofs.NodesLaws.{row_first, row-rest}
use Rattle.lowering.proofs.LinkedArray.{array-lowers, array-stays}
use Rattle.image_made.proofs.Listed.{counts_for, OpOk, AllIn, PoolsOk, CodeOk}
use Rattle.image_made.proofs.Gives.{all_append, More, more-refl, more-trans, code-more, GivesOut, GivesAll, gives_none, gives-seq}
use Rattle.image_made.proofs.Gives.{gives-emits, gives-ins, gives_then}
use Rattle.image_made.proofs.GivesLeaf.{residual-gives}

-- code of several parts, before their jumps are there
record Parts (s : List ℕ) (T : ℕ) (p : Pools) (fs : List Fragment) (q : Pools) : Type 0 where
  good : PoolsOk s q
  more : More p q
  codes : AllIn (λ (f : Fragment). CodeOk s T q f.code) fs

module _ (s : List ℕ) (T : ℕ) (q : Pools) where
  code-append : (c c' : Code) → CodeOk s T q c → CodeOk s T q c' → CodeOk s T q (c ++ c')
  code-append = all_append (λ (i : Ins). OpOk (counts_for s T q) i.op)

  -- the parts with their jumps are right where the parts are
  decided-ok : (jump : Op) (d : ℕ) (fs : List Fragment) → OpOk (counts_for s T q) jump → AllIn (λ (f : Fragment). CodeOk s T q f.code) fs
      → CodeOk s T q (decided jump d fs)
  unfolding decided
  decided-ok jump d [] h g = tt
  decided-ok jump d (f ∷ fs) h g =
      code-append f.code (ins jump (suc d) f.pos ∷ decided jump d fs) g.0 (h, decided-ok jump d fs h g.1)

  skipped-ok : (t d : ℕ) (fs : List Fragment) → AllIn (λ (f : Fragment). CodeOk s T q f.code) fs → CodeOk s T q (skipped t d fs)
  unfolding skipped
  skipped-ok t d [] g = tt
  skipped-ok t d (f ∷ fs) g =
      let rest = ins (Ops.SkipIfNotUnit t) (suc d) f.pos ∷ ins Ops.Pop (suc d) f.pos ∷ skipped t d fs in
      code-append f.code rest g.0 (tt, (tt, skipped-ok t d fs g.1))

  jump_ok : (stop t : ℕ) → OpOk (counts_for s T q) (jump_on stop t)
  unfolding jump_on
  jump_ok zero t = tt
  jump_ok (suc n) t = tt

module _ (s : List ℕ) (T : ℕ) (rec : Rec) (L : GivesAll s T rec) where
  -- siblings, one after another
  pub operands-give : (n j b d : ℕ) (p : Pools) → Row s n j → PoolsOk s p → GivesOut s T p (operands s rec n j b d p)
  unfolding operands
  operands-give zero j b d p r G = gives_none G
  operands-give (suc n) j b d p r G =
      let o = rec j b d p in
      let g = L.gives j b d p (row_first r) G in
      gives-seq g (operands-give n (next s j) (b + length o.code) (suc d) o.pools (row-rest r) g.good)

  -- the elements of an array from i on, each with its check of size
  elements-give : (n i j b d : ℕ) (p : Pools) → i + n ≤ max_elements → Row s n j → PoolsOk s p → GivesOut s T p (elements s rec n i j b d p)
  unfolding elements
  elements-give zero i j b d p m r G = gives_none G
  elements-give (suc n) i j b d p m r G =
      let o = rec j b d p in
      let g = L.gives j b d p (row_first r) G in
      let few : i ≤ max_elements = omega arith in
      let h = gives-ins {T = T} (ins (Ops.CheckSize i) (suc d) (position s j)) g.good few in
      let b' = b + length o.code + 1 in
      let rest = elements-give n (suc i) (next s j) b' (suc d) (emits 1 o.pools) (omega arith) (row-rest r) h.good in
      gives-seq g (gives-seq h rest)

  pub array-gives : (j b d : ℕ) (p : Pools) → Valid s j → Row s (count s j) (child j) → PoolsOk s p → GivesOut s T p (array s rec j b d p)
  array-gives j b d p v r G = by (leb (count s j) max_elements) refl
    where
      by : (t : Truth.Bool) → leb (count s j) max_elements ≡ t → GivesOut s T p (array s rec j b d p)
      by true h =
          let few = leb-true (count s j) max_elements h in
          rw (array-lowers s rec j b d p h)
          (gives_then (elements s rec (count s j) 0 (child j) b d p) (ins (Ops.MakeArray (count s j)) (d + count s j) (position s j))
          (elements-give (count s j) 0 (child j) b d p (omega arith) r G) few)
      by false h = rw (array-stays s rec j b d p h) (residual-gives s T p G j d v)

  -- the segments of a string
  segments-give : (n j b d : ℕ) (p : Pools) → Row s n j → PoolsOk s p → GivesOut s T p (segments s rec n j b d p)
  unfolding segments
  segments-give zero j b d p r G = gives_none G
  segments-give (suc n) j b d p r G =
      let o = rec j b d p in
      let g = L.gives j b d p (row_first r) G in
      let h = gives-ins {T = T} (ins Ops.InterpolateAppend (suc d) (position s j)) g.good tt in
      gives-seq g (gives-seq h (segments-give n (next s j) (b + length o.code + 1) d (emits 1 o.pools) (row-rest r) h.good))

  pub interpolated-gives : (j b d : ℕ) (p : Pools) → Row s (count s j) (child j) → PoolsOk s p → GivesOut s T p (interpolated s rec j b d p)
  unfolding interpolated
  interpolated-gives j b d p r G =
      let start = ins Ops.InterpolateStart d no_pos in
      let h = gives-ins {T = T} start G tt in
      let q = segments s rec (count s j) (child j) (b + 1) (suc d) (emits 1 p) in
      let g = segments-give (count s j) (child j) (b + 1) (suc d) (emits 1 p) r h.good in
      gives_then (out (start ∷ q.code) q.pools) (ins Ops.InterpolateEnd (suc d) no_pos) (gives-seq h g) tt

  -- operands, with a gap for a jump behind each
  fragments-give : (gap n j b d : ℕ) (p : Pools) → Row s n j → PoolsOk s p
      → Parts s T p (fragments s rec gap n j b d p).parts (fragments s rec gap n j b d p).pools
  unfolding fragments
  fragments-give gap zero j b d p r G = record { good = G; more = more-refl p; codes = tt }
  fragments-give gap (suc n) j b d p r G =
      let o = rec j b d p in
      let g = gives-emits gap (L.gives j b d p (row_first r) G) in
      let q = fragments s rec gap n (next s j) (b + length o.code + gap) d (emits gap o.pools) in
      let t = fragments-give gap n (next s j) (b + length o.code + gap) d (emits gap o.pools) (row-rest r) g.good in
      record {
        good = t.good;
        more = more-trans g.more t.more;
        codes = (code-more s T (emits gap o.pools) q.pools t.more o.code g.code, t.codes);
      }

  pub short_circuit-gives : (stop j b d : ℕ) (p : Pools) → stop ≤ 1 → Row s (count s j) (child j) → PoolsOk s p
      → GivesOut s T p (short_circuit stop s rec j b d p)
  unfolding short_circuit decision
  short_circuit-gives stop j b d p z r G =
      let q = fragments s rec 1 (count s j) (child j) b d p in
      let t = fragments-give 1 (count s j) (child j) b d p r G in
      let e = b + extent 1 q.parts in
      let jump = jump_on stop (e + 2) in
      let low : 1 - stop ≤ 1 = omega arith in
      let tries = decided-ok s T q.pools jump d q.parts (jump_ok s T q.pools stop (e + 2)) t.codes in
      let code = code-append s T q.pools (decided jump d q.parts) (decision stop e d) tries (low, (tt, (z, tt))) in
      gives-emits 3 (record { good = t.good; more = t.more; code = code })

  pub coalesce-gives : (j b d : ℕ) (p : Pools) → Row s (count s j - 1) (child j) → Valid s (skip s (count s j - 1) (child j)) → PoolsOk s p
      → GivesOut s T p (coalesce s rec j b d p)
  unfolding coalesce
  coalesce-gives j b d p r v G =
      let q = fragments s rec 2 (count s j - 1) (child j) b d p in
      let t = fragments-give 2 (count s j - 1) (child j) b d p r G in
      let e = b + extent 2 q.parts in
      let k = skip s (count s j - 1) (child j) in
      let o = rec k e d q.pools in
      let end = e + length o.code in
      gives-seq {c = skipped end d q.parts}
      (record { good = t.good; more = t.more; code = skipped-ok s T q.pools end d q.parts t.codes })
      (L.gives k e d q.pools v t.good)
