-- What is held of the front of an image: each part of the scratch that is read lies within it, and gives its section.
use Prim.Native.Nat.{ℕ, ◌+◌, ◌*◌, ◌≤◌, ◌<◌, min}
use mathlib.Core.Path.{◌≡◌, refl, sym, ap, ◌∙◌}
use mathlib.Core.List.{List, [], ◌∷◌, ◌++◌, map}
use native.Mathlib.Omega.{arith}
use lib.ListN.{length, length-append, length-map}
use Rattle.lowering.proofs.Decode.{steps-length}
use Rattle.sheet.specs.Node.{field_c}
use Rattle.bytecode.specs.Chain.{chain_words}
use Rattle.lowering.specs.Limits.{max_stack_cap, sizes_words, op_width, code_width, const_width, name_width, chain_width, step_width}
use Rattle.lowering.specs.Code.{code_words, positions}
use Rattle.lowering.specs.Pools.{const_of, steps_words}
use Rattle.lowering.specs.Image.{section, const_words, name_words, max_stack}
use Rattle.expr_chains.specs.Steps.{chains_from, steps_from}
use Rattle.expr_chains.specs.Kept.{step_count}
use Rattle.expr_chains.proofs.KeptLaws.{all-steps-length}
use Rattle.scratch_keys.specs.Keys.{name_of}
use Rattle.expr_model.specs.Made.{Made}
use Rattle.scratch.specs.declared.Layout.{Layout}
use Rattle.scratch_store.specs.declared.State.{State}
use Rattle.scratch.specs.Places.{positions_at, residuals_at, consts_at, tokens_at, chains_at, names_at, region}
use Rattle.scratch.proofs.RegionLaws.{region-length}
use Rattle.scratch_index.specs.Held.{names_held, NamesHold}
use Rattle.scratch_index.proofs.IndexesLaws.{indexes-names}
use Rattle.scratch_store.specs.Holds.{Holds}
use Rattle.scratch_store.proofs.AddLaws.{keys-few, chains-count}
use Rattle.write_front.specs.Front.{front_sizes, front}
use Rattle.write_front.proofs.RowLengths.{consts-length, names-length, chain-words-length}

module _ {s : List ℕ} {l : Layout} {xs : List ℕ} {st : State} {a : Made} (h : Holds s l xs st a) where
  code-fits : 0 + op_width * st.code ≤ length xs
  code-fits = omega (arith, h.fit.space, h.counts.standing, h.counts.within)

  positions-fit : positions_at l + st.code ≤ length xs
  positions-fit = omega (arith, h.fit.space, h.counts.standing, h.counts.within)

  residuals-fit : residuals_at l + st.residuals ≤ length xs
  residuals-fit = omega (arith, h.fit.space, h.counts.kept, h.counts.within)

  consts-fit : consts_at l + st.consts ≤ length xs
  consts-fit = omega (arith, h.fit.space, keys-few h.pooled.const_keys)

  tokens-fit : tokens_at l + st.tokens ≤ length xs
  tokens-fit = omega (arith, h.fit.space, keys-few h.pooled.token_keys)

  chains-fit : chains_at l + st.chains ≤ length xs
  chains-fit = omega (arith, h.fit.space, keys-few h.pooled.chain_keys)

  names-fit : names_at l + st.names ≤ length xs
  names-fit = omega (arith, h.fit.space, keys-few h.pooled.name_keys)

  -- counts
  consts-count : length a.pools.consts ≡ st.consts
  consts-count =
      ap length h.pooled.consts ∙ length-map (region (consts_at l) st.consts xs) (const_of s) ∙ h.pooled.const_keys.count

  tokens-count : length a.pools.tokens ≡ st.tokens
  tokens-count =
      ap length h.pooled.tokens ∙ length-map (region (tokens_at l) st.tokens xs) (field_c s) ∙ h.pooled.token_keys.count

  names-count : length a.pools.names ≡ st.names
  names-count =
      ap length h.pooled.names ∙ length-map (region (names_at l) st.names xs) (name_of s) ∙ h.pooled.name_keys.count

  steps-count : st.steps ≡ step_count s (region (chains_at l) st.chains xs)
  steps-count =
      h.laid.steps
      ∙ ap length h.pooled.chains.steps
      ∙ all-steps-length s a.pools.names (region (chains_at l) st.chains xs)

  -- so many chains have fewer steps than a word counts
  pub chains-few : 67108863 < st.chains → ⊥
  chains-few m = omega (arith, keys-few h.pooled.chain_keys, h.fit.small)

  -- sections
  consts-held : section const_words (map (const_of s) (region (consts_at l) st.consts xs)) ≡ section const_words a.pools.consts
  consts-held = ap (section const_words) (sym h.pooled.consts)

  names-held : section name_words (map (name_of s) (region (names_at l) st.names xs)) ≡ section name_words a.pools.names
  names-held = ap (section name_words) (sym h.pooled.names)

  -- the names, with their index and their memos
  pub names-hold : NamesHold s l st.names xs
  names-hold = indexes-names h.index

  pub names-listed : names_held s l st.names xs ≡ a.pools.names
  unfolding names_held
  names-listed = sym h.pooled.names

  -- the sizes
  pub sizes-held :
      (k sw ca ra : ℕ) → k ≡ min st.emitted max_stack_cap
      → (st.code
      ∷ st.consts
      ∷ st.names
      ∷ st.tokens
      ∷ st.residuals
      ∷ st.chains
      ∷ st.steps
      ∷ sw
      ∷ ca
      ∷ ra
      ∷ k
      ∷ st.deepest
      ∷ [])
      ≡ front_sizes a sw ca ra
  unfolding front_sizes max_stack
  sizes-held k sw ca ra m =
      rw (
        m,
        consts-count,
        names-count,
        tokens-count,
        chains-count h,
        h.laid.steps,
        h.counts.code,
        h.counts.residuals,
        h.counts.emitted,
        h.counts.deepest,
      )

  -- how many words
  words-length : length (code_words a.code) ≡ op_width * st.code
  words-length = ap length (sym h.emitted.code) ∙ region-length 0 (op_width * st.code) xs code-fits

  positions-length : length (positions a.code) ≡ st.code
  positions-length = ap length (sym h.emitted.positions) ∙ region-length (positions_at l) st.code xs positions-fit

  pub front_length :
      (sw ca ra : ℕ)
      → sizes_words + code_width * st.code + (const_width * st.consts + name_width * st.names + st.tokens) + st.residuals
      + (chain_width * st.chains + step_width * st.steps)
      ≡ length (front a sw ca ra)
  unfolding front front_sizes
  front_length sw ca ra =
      let p = a.pools in
      let cs = section const_words p.consts in
      let ns = section name_words p.names in
      let hs = section chain_words p.chains in
      let ss = steps_words p.steps in
      let f₁ = front_sizes a sw ca ra ++ code_words a.code in
      let f₂ = f₁ ++ positions a.code in
      let f₃ = f₂ ++ cs ++ ns in
      omega (
        arith,
        length-append (front_sizes a sw ca ra) (code_words a.code),
        length-append f₁ (positions a.code),
        length-append f₂ cs,
        length-append (f₂ ++ cs) ns,
        length-append f₃ p.tokens,
        length-append (f₃ ++ p.tokens) p.residuals,
        length-append (f₃ ++ p.tokens ++ p.residuals) hs,
        length-append (f₃ ++ p.tokens ++ p.residuals ++ hs) ss,
        words-length,
        positions-length,
        consts-length p.consts,
        consts-count,
        names-length p.names,
        names-count,
        tokens-count,
        h.counts.residuals,
        chain-words-length p.chains,
        chains-count h,
        steps-length p.steps,
        h.laid.steps,
      )

  -- the keys that are read are those that are held
  module _ {ks : List ℕ} where
    pub code-are : (0 + op_width * st.code ≤ length xs → ks ≡ region 0 (op_width * st.code) xs) → ks ≡ code_words a.code
    code-are f = f code-fits ∙ h.emitted.code

    pub positions-are :
        {p : ℕ} → p ≡ positions_at l → (p + st.code ≤ length xs → ks ≡ region p st.code xs) → ks ≡ positions a.code
    positions-are e f = f (rw e positions-fit) ∙ rw e h.emitted.positions

    pub residuals-are :
        {p : ℕ} → p ≡ residuals_at l → (p + st.residuals ≤ length xs → ks ≡ region p st.residuals xs) → ks ≡ a.pools.residuals
    residuals-are e f = f (rw e residuals-fit) ∙ rw e h.emitted.residuals

    pub consts-are :
        {p : ℕ} → p ≡ consts_at l → (p + st.consts ≤ length xs → ks ≡ region p st.consts xs)
        → section const_words (map (const_of s) ks) ≡ section const_words a.pools.consts
    consts-are e f = ap (λ ks. section const_words (map (const_of s) ks)) (f (rw e consts-fit)) ∙ rw e consts-held

    pub names-are :
        {p : ℕ} → p ≡ names_at l → (p + st.names ≤ length xs → ks ≡ region p st.names xs)
        → section name_words (map (name_of s) ks) ≡ section name_words a.pools.names
    names-are e f = ap (λ ks. section name_words (map (name_of s) ks)) (f (rw e names-fit)) ∙ rw e names-held

    pub tokens-are :
        {p : ℕ} → p ≡ tokens_at l → (p + st.tokens ≤ length xs → ks ≡ region p st.tokens xs)
        → map (field_c s) ks ≡ a.pools.tokens
    tokens-are e f = ap (map (field_c s)) (f (rw e tokens-fit)) ∙ rw e (sym h.pooled.tokens)

    pub chains-are :
        {p : ℕ} → p ≡ chains_at l → (p + st.chains ≤ length xs → ks ≡ region p st.chains xs)
        → ks ≡ region (chains_at l) st.chains xs
    chains-are e f = f (rw e chains-fit) ∙ ap (λ (i : ℕ). region i st.chains xs) e

  -- the chains and the steps
  pub chain-rows : length (section chain_words a.pools.chains) ≡ chain_width * st.chains
  chain-rows = chain-words-length a.pools.chains ∙ ap (λ (i : ℕ). chain_width * i) (chains-count h)

  pub step-rows : length (steps_words a.pools.steps) ≡ step_width * st.steps
  step-rows = steps-length a.pools.steps ∙ ap (λ (i : ℕ). step_width * i) (sym h.laid.steps)

  pub chain-keys-long : {js : List ℕ} → js ≡ region (chains_at l) st.chains xs → length js ≡ st.chains
  chain-keys-long e = ap length e ∙ region-length (chains_at l) st.chains xs chains-fit

  -- over the names that are held, and the keys of the chains: u was in the image before, and v is there behind
  module _ {t ys : List ℕ} {k : Layout} {n : ℕ} {js : List ℕ} (same : t ≡ s)
      (named : NamesHold t k n ys × (names_held t k n ys ≡ a.pools.names)) (keys : js ≡ region (chains_at l) st.chains xs) where
    pub chains-written :
        {v ws : List ℕ} → v ≡ ws
        → (NamesHold t k n ys → v ≡ section chain_words (chains_from t (names_held t k n ys) 0 js))
        → ws ≡ section chain_words a.pools.chains
    chains-written e w =
        sym e ∙ w named.0 ∙ rw (named.1, same, keys) (ap (section chain_words) (sym h.pooled.chains.chains))

    pub steps-written :
        {u b v ws : List ℕ} → u ≡ b → v ≡ ws
        → (NamesHold t k n ys → length u ≡ step_width * step_count t js → v ≡ steps_words (steps_from t (names_held t k n ys) js))
        → length b ≡ step_width * st.steps → ws ≡ steps_words a.pools.steps
    steps-written d e w m =
        let all : st.steps ≡ step_count t js = steps-count ∙ rw (same, keys) refl in
        sym e
        ∙ w named.0 (ap length d ∙ m ∙ ap (λ (i : ℕ). step_width * i) all)
        ∙ rw (named.1, same, keys) (ap steps_words (sym h.pooled.chains.steps))
