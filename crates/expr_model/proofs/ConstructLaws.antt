-- Array, Interpolated, And, Or and Coalesce: the change is what the definition gives.
use Prim.Native.Nat.{ℕ, suc, ◌+◌, ◌-◌}
use mathlib.Core.Path.{◌≡◌, refl, ap, ◌∙◌}
use mathlib.Core.Bool.{Bool, true, false}
use mathlib.Core.List.{List, [], ◌∷◌}
use native.Mathlib.Omega.{arith}
use lib.Dec.{leb}
use lib.ListN.{length, length-append}
use Rattle.lowering.proofs.SoundCoalesce.{skipped-length}
use Rattle.lowering.proofs.SoundShortCircuit.{decided-length}
use Rattle.sheet.specs.Node.{count, position, child}
use Rattle.sheet.specs.Walk.{skip}
use Rattle.bytecode.specs.declared.Op.TheVariants as Op
use Rattle.lowering.specs.Limits.{max_elements}
use Rattle.lowering.specs.Code.{Code, ins, no_pos}
use Rattle.lowering.specs.Pools.{emits}
use Rattle.lowering.specs.Out.{Out, out, Rec, and_then}
use Rattle.lowering.specs.Array as Array
use Rattle.lowering.specs.Interpolated as Interpolated
use Rattle.lowering.specs.ShortCircuit.{jump_on, fragments, extent, decision}
use Rattle.lowering.specs.ShortCircuit as ShortCircuit
use Rattle.lowering.specs.Coalesce as Coalesce
use Rattle.expr_model.specs.Made.{Made, place, after, emit, at_depth}
use Rattle.expr_model.specs.Construct.{array, segments, interpolated, decided, short_circuit, skipped, coalesce}
use Rattle.expr_model.proofs.Put.{put, behind, low_of, made-path, put-emit, put_low, then-then, put-around}
use Rattle.expr_model.proofs.AfterLaws.{after-array, after-start, after-end, after-bool, after-jump, after-decides}
use Rattle.expr_model.proofs.LeafLaws.{residual-is}
use Rattle.expr_model.proofs.SiblingLaws.{elements-is, segments-is, decided-is, skipped-is}

module _ (s : List ℕ) (rec : Rec) (j : ℕ) (a : Made) where
  array-fits : leb (count s j) max_elements ≡ true → array s (low_of rec) j a ≡ behind (Array.array s rec j) a
  unfolding array Array.array
  array-fits h =
      let d = a.depth in
      let m = count s j in
      let o = Array.elements s rec m 0 (child j) (place a) d a.pools in
      rw (h, array, Array.array)
      (ap (emit (Op.MakeArray m) (position s j) 0) (elements-is s rec m (child j) a)
      ∙ put-emit (Op.MakeArray m) (position s j) 0 o (d + m) a
      ∙ made-path refl refl (after-array 0 d m))

  array_long : leb (count s j) max_elements ≡ false → array s (low_of rec) j a ≡ behind (Array.array s rec j) a
  unfolding array Array.array
  array_long h = rw (h, array, Array.array) (residual-is j a)

  pub array-is : array s (low_of rec) j a ≡ behind (Array.array s rec j) a
  array-is = by (leb (count s j) max_elements) refl
    where
      by : (t : Bool) → leb (count s j) max_elements ≡ t → array s (low_of rec) j a ≡ behind (Array.array s rec j) a
      by true h = array-fits h
      by false h = array_long h

  -- InterpolateStart
  start_is : emit Op.InterpolateStart no_pos 0 a
      ≡ put (and_then (out [] a.pools) (ins Op.InterpolateStart a.depth no_pos ∷ [])) (suc a.depth) a
  unfolding emit and_then
  start_is = made-path refl refl (after-start 0 a.depth)

  pub interpolated-is : interpolated s (low_of rec) j a ≡ behind (Interpolated.interpolated s rec j) a
  unfolding interpolated Interpolated.interpolated and_then
  interpolated-is =
      let d = a.depth in
      let m = count s j in
      let i = ins Op.InterpolateStart d no_pos in
      let x = put (and_then (out [] a.pools) (i ∷ [])) (suc d) a in
      let go : ℕ → Out = λ b. Interpolated.segments s rec m (child j) b (suc d) (emits 1 a.pools) in
      let r = go (place a + 1) in
      let e : place x ≡ place a + 1 = length-append a.code (i ∷ []) in
      ap (λ y. emit Op.InterpolateEnd no_pos 0 (segments s (low_of rec) m (child j) y)) start_is
      ∙ ap (emit Op.InterpolateEnd no_pos 0) (
      segments-is s rec d m (child j) x refl
      ∙ ap (λ b. put (go b) (suc d) x) e
      ∙ put-around (out [] a.pools) i r (suc d) (suc d) a
      )
      ∙ put-emit Op.InterpolateEnd no_pos 0 (out (i ∷ r.code) r.pools) (suc d) a
      ∙ made-path refl refl (after-end 0 d)

  -- the end of And and Or, with its last place before `end`
  abbrev ending : ℕ → ℕ → ℕ → Code
  ending stop end d = ins (Op.Bool (1 - stop)) d no_pos ∷ ins (Op.Jump end) (suc d) no_pos ∷ ins (Op.Bool stop) d no_pos ∷ []

  decision-is : (stop end : ℕ) (o : Out)
      → emit (Op.Bool stop) no_pos 0
      (at_depth a.depth (emit (Op.Jump end) no_pos 0 (emit (Op.Bool (1 - stop)) no_pos 0 (put o a.depth a))))
      ≡ put (and_then o (ending stop end a.depth)) (suc a.depth) a
  unfolding at_depth
  decision-is stop end o =
      let d = a.depth in
      let i = ins (Op.Bool (1 - stop)) d no_pos in
      let k = ins (Op.Jump end) (suc d) no_pos in
      let l = ins (Op.Bool stop) d no_pos in
      let first : emit (Op.Bool (1 - stop)) no_pos 0 (put o d a) ≡ put (and_then o (i ∷ [])) (suc d) a
      = put-emit (Op.Bool (1 - stop)) no_pos 0 o d a ∙ made-path refl refl (after-bool 0 d (1 - stop)) in
      let second : emit (Op.Jump end) no_pos 0 (put (and_then o (i ∷ [])) (suc d) a) ≡ put (and_then o (i ∷ k ∷ [])) (suc d) a
      = put-emit (Op.Jump end) no_pos 0 (and_then o (i ∷ [])) (suc d) a
      ∙ ap (λ o. put o (after (Op.Jump end) 0 (suc d)) a) (then-then o (i ∷ []) (k ∷ []))
      ∙ made-path refl refl (after-jump 0 (suc d) end) in
      ap (λ x. emit (Op.Bool stop) no_pos 0 (at_depth d (emit (Op.Jump end) no_pos 0 x))) first
      ∙ ap (λ x. emit (Op.Bool stop) no_pos 0 (at_depth d x)) second
      ∙ put-emit (Op.Bool stop) no_pos 0 (and_then o (i ∷ k ∷ [])) d a
      ∙ ap (λ o. put o (after (Op.Bool stop) 0 d) a) (then-then o (i ∷ k ∷ []) (l ∷ []))
      ∙ made-path refl refl (after-bool 0 d stop)

  -- the place behind And and Or
  short-end : (stop : ℕ) → let r = fragments s rec 1 (count s j) (child j) (place a) a.depth a.pools in
      length (ShortCircuit.short_circuit stop s rec j (place a) a.depth a.pools).code ≡ extent 1 r.parts + 3
  unfolding ShortCircuit.short_circuit decision
  short-end stop =
      let d = a.depth in
      let r = fragments s rec 1 (count s j) (child j) (place a) d a.pools in
      let e = place a + extent 1 r.parts in
      let c = ShortCircuit.decided (jump_on stop (e + 2)) d r.parts in
      let k = decided-length (jump_on stop (e + 2)) d r.parts in
      omega (arith, length-append c (decision stop e d))

  pub short-is : (stop end : ℕ) → end ≡ place a + length (ShortCircuit.short_circuit stop s rec j (place a) a.depth a.pools).code
      → short_circuit stop s (low_of rec) end j a ≡ behind (ShortCircuit.short_circuit stop s rec j) a
  unfolding short_circuit ShortCircuit.short_circuit decision and_then
  short-is stop end h =
      let d = a.depth in
      let r = fragments s rec 1 (count s j) (child j) (place a) d a.pools in
      let e = place a + extent 1 r.parts in
      let k = short-end stop in
      let last : end ≡ e + 3 = omega arith in
      let before : end - 1 ≡ e + 2 = omega arith in
      let jump = jump_on stop (e + 2) in
      ap (λ t. short_by stop t end) before
      ∙ ap (short_by stop (e + 2)) last
      ∙ ap (λ x. emit (Op.Bool stop) no_pos 0 (at_depth d (emit (Op.Jump (e + 3)) no_pos 0 (emit (Op.Bool (1 - stop)) no_pos 0 x))))
      (decided-is s rec jump (count s j) (child j) a (λ n. after-decides 0 n stop (e + 2)))
      ∙ decision-is stop (e + 3) (out (ShortCircuit.decided jump d r.parts) r.pools)
    where
      short_by : ℕ → ℕ → ℕ → Made
      short_by stop t end =
          let x = decided s (low_of rec) (jump_on stop t) (count s j) (child j) a in
          emit (Op.Bool stop) no_pos 0 (at_depth a.depth (emit (Op.Jump end) no_pos 0 (emit (Op.Bool (1 - stop)) no_pos 0 x)))

  pub coalesce-is : (end : ℕ) → end ≡ place a + length (Coalesce.coalesce s rec j (place a) a.depth a.pools).code
      → coalesce s (low_of rec) end j a ≡ behind (Coalesce.coalesce s rec j) a
  unfolding coalesce Coalesce.coalesce
  coalesce-is end h =
      let d = a.depth in
      let n = count s j - 1 in
      let v = skip s n (child j) in
      let r = fragments s rec 2 n (child j) (place a) d a.pools in
      let e = place a + extent 2 r.parts in
      let o = rec v e d r.pools in
      let t = e + length o.code in
      let c = Coalesce.skipped t d r.parts in
      let len : length c ≡ extent 2 r.parts = skipped-length t d r.parts in
      let last : end ≡ t = omega (arith, length-append c o.code) in
      let at : place a + length c ≡ e = omega arith in
      ap (λ m. low_of rec v (skipped s (low_of rec) m n (child j) a)) last
      ∙ ap (low_of rec v) (skipped-is s rec t n (child j) a)
      ∙ put_low rec v (out c r.pools) d e a at
