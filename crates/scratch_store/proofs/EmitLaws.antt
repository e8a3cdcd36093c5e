-- An instruction written behind the code, and counted.
use Rattle.std.proofs.Common.{◌≡◌, ℕ, ◌+◌, ◌*◌, ◌%◌, ◌≤◌, max, List, [], ◌∷◌, ◌++◌, length, set, sym, refl, ap, ◌∙◌, ap₂, append_assoc}
use Rattle.std.proofs.Common.{append-nil, arith, length-append, length-set}
use lib.Seq.{sets, length-sets}
use Rattle.lowering.proofs.Widths.{op-width}
use Rattle.bytecode.specs.declared.Op.{Op}
use Rattle.bytecode.specs.Op.{op_words}
use Rattle.lowering.specs.Limits.{op_width}
use Rattle.lowering.specs.Code.{Code, Ins, ins, greatest, code_words, positions}
use Rattle.lowering.specs.Pools.{emits}
use Rattle.expr_chains.proofs.KeptLaws.{kept-emits}
use Rattle.expr_model.specs.Made.{Made, after, emit}
use Rattle.scratch.specs.declared.Layout.{Layout}
use Rattle.scratch_index.specs.Indexes.{Indexes}
use Rattle.scratch_index.proofs.IndexesLaws.{indexes-before, indexes-sets}
use Rattle.scratch_store.specs.declared.State.{State}
use Rattle.scratch.specs.Places.{positions_at, residuals_at, consts_at, tokens_at, chains_at, names_at, region}
use Rattle.scratch.proofs.RegionLaws.{region-before, region-behind, region-push, regions-before, regions-push}
use Rattle.scratch_store.specs.Effects.{after_words}
use Rattle.scratch_store.proofs.EffectLaws.{after_op}
use Rattle.scratch_store.proofs.TableLaws.{after-least}
use Rattle.scratch_store.specs.Holds.{Fit, Counts, Laid, CodeHeld, Holds}
use Rattle.scratch_store.specs.States.{counted}
use Rattle.scratch_store.specs.Does.{Fits, Does}
use Rattle.scratch_store.proofs.FrameLaws.{
  fit_same,
  laid_same,
  SameKeys,
  SamePools,
  pools-same,
  pools-counts,
  same_keys,
  same-keys-then,
}

-- an instruction more
code-snoc : (c : Code) (i : Ins) → code_words (c ++ (i ∷ [])) ≡ code_words c ++ op_words i.op
unfolding code_words
code-snoc [] i = append-nil (op_words i.op)
code-snoc (k ∷ c) i =
    ap (λ (l : List ℕ). op_words k.op ++ l) (code-snoc c i) ∙ sym (append_assoc (op_words k.op) (code_words c) (op_words i.op))

positions-snoc : (c : Code) (i : Ins) → positions (c ++ (i ∷ [])) ≡ positions c ++ (i.pos ∷ [])
unfolding positions
positions-snoc [] i = refl
positions-snoc (k ∷ c) i = ap (λ (l : List ℕ). k.pos ∷ l) (positions-snoc c i)

greatest-snoc : (c : Code) (i : Ins) → greatest (c ++ (i ∷ [])) ≡ max (greatest c) i.depth
unfolding greatest
greatest-snoc [] i = omega arith
greatest-snoc (k ∷ c) i = let z = greatest-snoc c i in omega arith

-- the scratch after an instruction is written
abbrev pub written : Layout → State → List ℕ → ℕ → List ℕ → List ℕ
written l st w pos xs = set (sets xs (op_width * st.code) w) (positions_at l + st.code) pos

module _ {s : List ℕ} {l : Layout} {xs : List ℕ} {st : State} {a : Made} (op : Op) (pos n : ℕ) (w : List ℕ) (e : w ≡ op_words op)
    (k : length w ≡ 4) (h : Holds s l xs st a) (f : Fits l (emit op pos n a)) where
  room : st.emitted + 1 ≤ l.most
  unfolding emit emits
  room = let z = h.counts.emitted in omega arith

  words-room : op_width * st.code + op_width ≤ length xs
  words-room =
      let c = h.counts in
      let g = room in
      let space = h.fit.space in
      omega arith

  emit-fit : Fit s l (written l st w pos xs)
  emit-fit =
      fit_same (length-set (sets xs (op_width * st.code) w) (positions_at l + st.code) pos ∙ length-sets xs (op_width * st.code) w) h.fit

  emit-counts : Counts l (counted st (after_words w n st.depth)) (emit op pos n a)
  unfolding emit emits
  emit-counts =
      let c = h.counts in
      let g = room in
      let small = h.fit.few in
      let more = length-append a.code (ins op a.depth pos ∷ []) in
      let deep = greatest-snoc a.code (ins op a.depth pos) in
      let least = after-least w n st.depth in
      let same : after_words w n st.depth ≡ after op n a.depth =
      ap₂ (λ (v : List ℕ) (d : ℕ). after_words v n d) e c.depth ∙ after_op n a.depth op in
      record {
        code = omega arith;
        residuals = c.residuals;
        emitted = omega arith;
        depth = omega arith;
        deepest = omega arith;
        standing = omega arith;
        kept = omega arith;
        low = omega arith;
        within = omega arith;
      }

  emit-code : CodeHeld l (written l st w pos xs) (counted st (after_words w n st.depth)) (emit op pos n a)
  unfolding emit emits
  emit-code =
      let c = h.counts in
      let g = room in
      let small = h.fit.few in
      let space = h.fit.space in
      let mid = sets xs (op_width * st.code) w in
      let at = positions_at l + st.code in
      let long : length mid ≡ length xs = length-sets xs (op_width * st.code) w in
      let i = ins op a.depth pos in
      let words : op_width * ((st.code + 1) % 4294967296) ≡ op_width * st.code + length w = omega arith in
      let count : (st.code + 1) % 4294967296 ≡ st.code + 1 = omega arith in
      record {
        code =
            ap (λ (m : ℕ). region 0 m (set mid at pos)) words
            ∙ region-behind 0 (op_width * st.code + length w) at pos mid (omega arith)
            ∙ regions-push 0 (op_width * st.code) (op_width * st.code) w xs (omega arith) (omega arith)
            ∙ ap₂ ◌++◌ h.emitted.code e
            ∙ sym (code-snoc a.code i);
        positions =
            ap (λ (m : ℕ). region (positions_at l) m (set mid at pos)) count
            ∙ region-push (positions_at l) st.code at pos mid refl (omega arith)
            ∙ ap (λ (z : List ℕ). z ++ (pos ∷ []))
            (regions-before (positions_at l) st.code (op_width * st.code) w xs (omega arith) ∙ h.emitted.positions)
            ∙ sym (positions-snoc a.code i);
        residuals =
            region-before (residuals_at l) st.residuals at pos mid (omega arith)
            ∙ regions-before (residuals_at l) st.residuals (op_width * st.code) w xs (omega arith)
            ∙ h.emitted.residuals;
      }

  emit-keys : SameKeys l st xs (written l st w pos xs)
  emit-keys =
      let c = h.counts in
      let g = room in
      same-keys-then
      (record {
        consts = regions-before (consts_at l) st.consts (op_width * st.code) w xs (omega arith);
        tokens = regions-before (tokens_at l) st.tokens (op_width * st.code) w xs (omega arith);
        chains = regions-before (chains_at l) st.chains (op_width * st.code) w xs (omega arith);
        names = regions-before (names_at l) st.names (op_width * st.code) w xs (omega arith);
      })
      (same_keys l st (positions_at l + st.code) pos (sets xs (op_width * st.code) w) (omega arith))

  emit-pools : SamePools s a (emit op pos n a)
  unfolding emit emits
  emit-pools = record { consts = refl; tokens = refl; names = refl; chains = λ ks k. kept-emits s 1 a.pools k }

  emit-laid : Laid l (counted st (after_words w n st.depth)) (emit op pos n a)
  unfolding emit emits
  emit-laid = laid_same (counted st (after_words w n st.depth)) (emit op pos n a) refl refl (omega arith) refl h.laid

  emit-index : Indexes s l st.consts st.tokens st.chains st.names (written l st w pos xs)
  emit-index =
      let c = h.counts in
      let g = room in
      indexes-before (indexes-sets w xs (op_width * st.code) (omega arith) h.index) (positions_at l + st.code) pos (omega arith)

  emit-holds : Holds s l (written l st w pos xs) (counted st (after_words w n st.depth)) (emit op pos n a)
  emit-holds = record {
    fit = emit-fit;
    counts = emit-counts;
    laid = emit-laid;
    emitted = emit-code;
    pooled =
        pools-counts (counted st (after_words w n st.depth)) (record { consts = refl; tokens = refl; chains = refl; names = refl })
        (pools-same emit-keys emit-pools h.pooled);
    index = emit-index;
  }

-- as the code does it, which writes the words where they have room
pub emit-does :
    {s : List ℕ} (l : Layout) (xs : List ℕ) (c : State) (op : Op) (pos n : ℕ) (w mid ys : List ℕ) (d p : ℕ) (r : State)
    → w ≡ op_words op → d ≡ after_words w n c.depth → p ≡ positions_at l + c.code
    → (op_width * c.code + op_width ≤ length xs → mid ≡ sets xs (op_width * c.code) w)
    → ys ≡ set mid p pos → r ≡ counted c d → Does s l xs c ys r (emit op pos n)
emit-does l xs c op pos n w mid ys d p r e g z m y q = record {
  holds = λ a h f.
      let k = ap length e ∙ op-width op in
      let words = m (words-room op pos n w e k h f) in
      rw (q, g, y, z, words) (emit-holds op pos n w e k h f);
}
