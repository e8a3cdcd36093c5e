-- Siblings taken one by one from the first are what the definition gives for all of them.
use Prim.Native.Nat.{ℕ, zero, suc, ◌+◌}
use mathlib.Core.Path.{◌≡◌, refl, sym, ap, ◌∙◌}
use mathlib.Core.List.{List, [], ◌∷◌}
use native.Mathlib.Omega.{arith}
use native.Mathlib.Nat.{zero-add}
use lib.ListN.{length}
use Rattle.sheet.specs.Node.{position, next}
use Rattle.sheet.specs.Walk.{skip}
use Rattle.bytecode.specs.declared.Op.{Op}
use Rattle.bytecode.specs.declared.Op.TheVariants.{CheckSize, InterpolateAppend, SkipIfNotUnit, Pop}
use Rattle.lowering.specs.Code.{Code, ins}
use Rattle.lowering.specs.Pools.{Pools, emits}
use Rattle.lowering.specs.Out.{Out, out, Rec, and_then}
use Rattle.lowering.specs.Operands as Operands
use Rattle.lowering.specs.Array as Array
use Rattle.lowering.specs.Interpolated as Interpolated
use Rattle.lowering.specs.ShortCircuit.{fragments}
use Rattle.lowering.specs.ShortCircuit as ShortCircuit
use Rattle.lowering.specs.Coalesce as Coalesce
use Rattle.expr_model.specs.Made.{Made, place, after, emit}
use Rattle.expr_model.specs.Construct.{Low, operands, elements, segments, decided, skipped}
use Rattle.expr_model.proofs.Put.{
  put,
  put_at,
  low_of,
  made-path,
  put-none,
  put-emit,
  put-put,
  put-place,
  then-then,
  put-around,
  around-place,
  put-around-both,
  around-both-place,
}
use Rattle.expr_model.proofs.AfterLaws.{after_check, after-append, after-skip, after-pop}

-- a change for each of the first i siblings from node j on; the change at sibling i may differ with i
unfoldable each : List ℕ → (ℕ → Low) → ℕ → ℕ → Made → Made
each s F zero j a = a
each s F (suc i) j a = F i (skip s i j) (each s F i j a)

module _ (s : List ℕ) where
  -- the first of them, and then the others
  each_first : (F : ℕ → Low) (n j : ℕ) (a : Made) → each s F (suc n) j a ≡ each s (λ i. F (suc i)) n (next s j) (F 0 j a)
  unfolding each skip
  each_first F zero j a = refl
  each_first F (suc n) j a = ap (F (suc n) (skip s n (next s j))) (each_first F n j a)

  each_same : (F G : ℕ → Low) → ((i j : ℕ) (a : Made) → F i j a ≡ G i j a) → (n j : ℕ) (a : Made) → each s F n j a ≡ each s G n j a
  unfolding each
  each_same F G h zero j a = refl
  each_same F G h (suc n) j a = h n (skip s n j) (each s F n j a) ∙ ap (G n (skip s n j)) (each_same F G h n j a)

  module _ (low : Low) where
    operands-each : (n j : ℕ) (a : Made) → operands s low n j a ≡ each s (λ i. low) n j a
    unfolding operands each
    operands-each zero j a = refl
    operands-each (suc n) j a = ap (low (skip s n j)) (operands-each n j a)

    -- element k + i at node v
    element : ℕ → ℕ → Low
    element k i v a = emit (CheckSize (k + i)) (position s v) 0 (low v a)

    elements-each : (n j : ℕ) (a : Made) → elements s low n j a ≡ each s (element 0) n j a
    unfolding elements each element
    elements-each zero j a = refl
    elements-each (suc n) j a =
        ap (λ i. emit (CheckSize i) (position s (skip s n j)) 0 (low (skip s n j) (elements s low n j a))) (sym (zero-add n))
        ∙ ap (λ x. emit (CheckSize (0 + n)) (position s (skip s n j)) 0 (low (skip s n j) x)) (elements-each n j a)

    segment : Low
    segment v a = emit InterpolateAppend (position s v) 0 (low v a)

    segments-each : (n j : ℕ) (a : Made) → segments s low n j a ≡ each s (λ i. segment) n j a
    unfolding segments each segment
    segments-each zero j a = refl
    segments-each (suc n) j a = ap (segment (skip s n j)) (segments-each n j a)

    decide : Op → Low
    decide jump v a = emit jump (position s v) 0 (low v a)

    decided-each : (jump : Op) (n j : ℕ) (a : Made) → decided s low jump n j a ≡ each s (λ i. decide jump) n j a
    unfolding decided each decide
    decided-each jump zero j a = refl
    decided-each jump (suc n) j a = ap (decide jump (skip s n j)) (decided-each jump n j a)

    pass : ℕ → Low
    pass end v a = emit Pop (position s v) 0 (emit (SkipIfNotUnit end) (position s v) 0 (low v a))

    skipped-each : (end n j : ℕ) (a : Made) → skipped s low end n j a ≡ each s (λ i. pass end) n j a
    unfolding skipped each pass
    skipped-each end zero j a = refl
    skipped-each end (suc n) j a = ap (pass end (skip s n j)) (skipped-each end n j a)

module _ (s : List ℕ) (rec : Rec) where
  operands-all : (n j : ℕ) (a : Made) → each s (λ i. low_of rec) n j a ≡ put_at (Operands.operands s rec n j) (a.depth + n) a
  unfolding each Operands.operands
  operands-all zero j a = put-none a ∙ made-path refl refl (omega arith)
  operands-all (suc n) j a =
      let d = a.depth in
      let o = rec j (place a) d a.pools in
      let x = put o (suc d) a in
      let go : ℕ → Out = λ b. Operands.operands s rec n (next s j) b (suc d) o.pools in
      each_first s (λ i. low_of rec) n j a
      ∙ operands-all n (next s j) x
      ∙ ap (λ b. put (go b) (suc d + n) x) (put-place o (suc d) a)
      ∙ put-put o (go (place a + length o.code)) (suc d) (suc d + n) a
      ∙ made-path refl refl (omega arith)

  pub operands-is : (n j : ℕ) (a : Made) → operands s (low_of rec) n j a ≡ put_at (Operands.operands s rec n j) (a.depth + n) a
  operands-is n j a = operands-each s (low_of rec) n j a ∙ operands-all n j a

  -- an element and CheckSize
  element-is : (k j : ℕ) (a : Made)
      → element s (low_of rec) k 0 j a
      ≡ put (and_then (rec j (place a) a.depth a.pools) (ins (CheckSize k) (suc a.depth) (position s j) ∷ [])) (suc a.depth) a
  unfolding element
  element-is k j a =
      let d = suc a.depth in
      let o = rec j (place a) a.depth a.pools in
      let e : k + 0 ≡ k = omega arith in
      ap (λ i. emit (CheckSize i) (position s j) 0 (low_of rec j a)) e
      ∙ put-emit (CheckSize k) (position s j) 0 o d a
      ∙ made-path refl refl (after_check 0 d k)

  further : (k i v : ℕ) (x : Made) → element s (low_of rec) k (suc i) v x ≡ element s (low_of rec) (suc k) i v x
  unfolding element
  further k i v x = let e : k + suc i ≡ suc k + i = omega arith in ap (λ m. emit (CheckSize m) (position s v) 0 (low_of rec v x)) e

  elements-all : (k n j : ℕ) (a : Made) → each s (element s (low_of rec) k) n j a ≡ put_at (Array.elements s rec n k j) (a.depth + n) a
  unfolding each Array.elements and_then
  elements-all k zero j a = put-none a ∙ made-path refl refl (omega arith)
  elements-all k (suc n) j a =
      let d = a.depth in
      let o = rec j (place a) d a.pools in
      let i = ins (CheckSize k) (suc d) (position s j) in
      let x = put (and_then o (i ∷ [])) (suc d) a in
      let go : ℕ → Out = λ b. Array.elements s rec n (suc k) (next s j) b (suc d) (emits 1 o.pools) in
      each_first s (element s (low_of rec) k) n j a
      ∙ each_same s (λ m. element s (low_of rec) k (suc m)) (element s (low_of rec) (suc k)) (further k) n (next s j)
      (element s (low_of rec) k 0 j a)
      ∙ ap (each s (element s (low_of rec) (suc k)) n (next s j)) (element-is k j a)
      ∙ elements-all (suc k) n (next s j) x
      ∙ ap (λ b. put (go b) (suc d + n) x) (around-place o i (suc d) a)
      ∙ put-around o i (go (place a + length o.code + 1)) (suc d) (suc d + n) a
      ∙ made-path refl refl (omega arith)

  pub elements-is : (n j : ℕ) (a : Made) → elements s (low_of rec) n j a ≡ put_at (Array.elements s rec n 0 j) (a.depth + n) a
  elements-is n j a = elements-each s (low_of rec) n j a ∙ elements-all 0 n j a

  -- a segment and InterpolateAppend, onto the string at depth d
  segment-is : (d j : ℕ) (a : Made) → a.depth ≡ suc d
      → segment s (low_of rec) j a
      ≡ put (and_then (rec j (place a) a.depth a.pools) (ins InterpolateAppend (suc a.depth) (position s j) ∷ [])) a.depth a
  unfolding segment
  segment-is d j a h =
      let o = rec j (place a) a.depth a.pools in
      put-emit InterpolateAppend (position s j) 0 o (suc a.depth) a
      ∙ made-path refl refl (ap (λ n. after InterpolateAppend 0 (suc n)) h ∙ after-append 0 d ∙ sym h)

  segments-all : (d n j : ℕ) (a : Made) → a.depth ≡ suc d
      → each s (λ i. segment s (low_of rec)) n j a ≡ put_at (Interpolated.segments s rec n j) a.depth a
  unfolding each Interpolated.segments and_then
  segments-all d zero j a h = put-none a
  segments-all d (suc n) j a h =
      let o = rec j (place a) a.depth a.pools in
      let i = ins InterpolateAppend (suc a.depth) (position s j) in
      let x = put (and_then o (i ∷ [])) a.depth a in
      let go : ℕ → Out = λ b. Interpolated.segments s rec n (next s j) b a.depth (emits 1 o.pools) in
      each_first s (λ i. segment s (low_of rec)) n j a
      ∙ ap (each s (λ i. segment s (low_of rec)) n (next s j)) (segment-is d j a h)
      ∙ segments-all d n (next s j) x h
      ∙ ap (λ b. put (go b) a.depth x) (around-place o i a.depth a)
      ∙ put-around o i (go (place a + length o.code + 1)) a.depth a.depth a

  pub segments-is : (d n j : ℕ) (a : Made) → a.depth ≡ suc d
      → segments s (low_of rec) n j a ≡ put_at (Interpolated.segments s rec n j) a.depth a
  segments-is d n j a h = segments-each s (low_of rec) n j a ∙ segments-all d n j a h

  -- an operand and the jump
  decide-is : (jump : Op) (j : ℕ) (a : Made) → ((d : ℕ) → after jump 0 (suc d) ≡ d)
      → decide s (low_of rec) jump j a
      ≡ put (and_then (rec j (place a) a.depth a.pools) (ins jump (suc a.depth) (position s j) ∷ [])) a.depth a
  unfolding decide
  decide-is jump j a h =
      put-emit jump (position s j) 0 (rec j (place a) a.depth a.pools) (suc a.depth) a
      ∙ made-path refl refl (h a.depth)

  -- the fragments, each with its jump
  abbrev pub decided_out : Op → ℕ → ℕ → ℕ → ℕ → Pools → Out
  decided_out jump n j b d p = let r = fragments s rec 1 n j b d p in out (ShortCircuit.decided jump d r.parts) r.pools

  decided-all : (jump : Op) (n j : ℕ) (a : Made) → ((d : ℕ) → after jump 0 (suc d) ≡ d)
      → each s (λ i. decide s (low_of rec) jump) n j a ≡ put_at (decided_out jump n j) a.depth a
  unfolding each ShortCircuit.decided fragments and_then
  decided-all jump zero j a h = put-none a
  decided-all jump (suc n) j a h =
      let d = a.depth in
      let o = rec j (place a) d a.pools in
      let i = ins jump (suc d) (position s j) in
      let x = put (and_then o (i ∷ [])) d a in
      let go : ℕ → Out = λ b. decided_out jump n (next s j) b d (emits 1 o.pools) in
      each_first s (λ i. decide s (low_of rec) jump) n j a
      ∙ ap (each s (λ i. decide s (low_of rec) jump) n (next s j)) (decide-is jump j a h)
      ∙ decided-all jump n (next s j) x h
      ∙ ap (λ b. put (go b) d x) (around-place o i d a)
      ∙ put-around o i (go (place a + length o.code + 1)) d d a

  pub decided-is : (jump : Op) (n j : ℕ) (a : Made) → ((d : ℕ) → after jump 0 (suc d) ≡ d)
      → decided s (low_of rec) jump n j a
      ≡ put_at (decided_out jump n j) a.depth a
  decided-is jump n j a h = decided-each s (low_of rec) jump n j a ∙ decided-all jump n j a h

  -- an operand, SkipIfNotUnit and Pop
  abbrev passed : ℕ → ℕ → ℕ → Code
  passed end j d = ins (SkipIfNotUnit end) (suc d) (position s j) ∷ ins Pop (suc d) (position s j) ∷ []

  pass-is : (end j : ℕ) (a : Made)
      → pass s (low_of rec) end j a ≡ put (and_then (rec j (place a) a.depth a.pools) (passed end j a.depth)) a.depth a
  unfolding pass
  pass-is end j a =
      let d = a.depth in
      let o = rec j (place a) d a.pools in
      let i = ins (SkipIfNotUnit end) (suc d) (position s j) in
      let k = ins Pop (suc d) (position s j) in
      ap (emit Pop (position s j) 0)
      (put-emit (SkipIfNotUnit end) (position s j) 0 o (suc d) a ∙ made-path refl refl (after-skip 0 (suc d) end))
      ∙ put-emit Pop (position s j) 0 (and_then o (i ∷ [])) (suc d) a
      ∙ ap (λ o. put o (after Pop 0 (suc d)) a) (then-then o (i ∷ []) (k ∷ []))
      ∙ made-path refl refl (after-pop 0 d)

  abbrev pub skipped_out : ℕ → ℕ → ℕ → ℕ → ℕ → Pools → Out
  skipped_out end n j b d p = let r = fragments s rec 2 n j b d p in out (Coalesce.skipped end d r.parts) r.pools

  skipped-all : (end n j : ℕ) (a : Made) → each s (λ i. pass s (low_of rec) end) n j a ≡ put_at (skipped_out end n j) a.depth a
  unfolding each Coalesce.skipped fragments and_then
  skipped-all end zero j a = put-none a
  skipped-all end (suc n) j a =
      let d = a.depth in
      let o = rec j (place a) d a.pools in
      let i = ins (SkipIfNotUnit end) (suc d) (position s j) in
      let k = ins Pop (suc d) (position s j) in
      let x = put (and_then o (i ∷ k ∷ [])) d a in
      let go : ℕ → Out = λ b. skipped_out end n (next s j) b d (emits 2 o.pools) in
      each_first s (λ i. pass s (low_of rec) end) n j a
      ∙ ap (each s (λ i. pass s (low_of rec) end) n (next s j)) (pass-is end j a)
      ∙ skipped-all end n (next s j) x
      ∙ ap (λ b. put (go b) d x) (around-both-place o i k d a)
      ∙ put-around-both o i k (go (place a + length o.code + 2)) d d a

  pub skipped-is : (end n j : ℕ) (a : Made)
      → skipped s (low_of rec) end n j a
      ≡ put_at (skipped_out end n j) a.depth a
  skipped-is end n j a = skipped-each s (low_of rec) end n j a ∙ skipped-all end n j a
