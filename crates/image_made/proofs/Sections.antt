-- Where the sections of a program's words stand that no run reads, and where they end.
use Prim.Native.Nat.{ℕ, ◌+◌, ◌*◌, ◌<◌}
use mathlib.Core.Path.{◌≡◌, subst}
use mathlib.Core.List.{List}
use native.Mathlib.Omega.{arith}
use lib.ListN.{length, get_or, length-append}
use Rattle.bytecode.specs.declared.Step.{Step}
use Rattle.bytecode.specs.Chain.{step_words, chain_words}
use Rattle.bytecode.specs.Switch.{switch_words, range_words}
use Rattle.lowering.specs.Limits.{name_width, const_width, chain_width, step_width, range_width}
use Rattle.lowering.specs.Pools.{Name, steps_words}
use Rattle.lowering.specs.Program.{Program}
use Rattle.lowering.specs.Image.{section, const_words, name_words, sizes, words}
use Rattle.lowering.specs.Words.{word}
use Rattle.lowering.proofs.Parts.{Part, part-last, part-more, part-word, section-length, record-word}
use Rattle.lowering.proofs.Widths.{const-width, name-width, chain-width, step-width, range-width}
use Rattle.lowering.proofs.Decode.{steps-section, to_consts, to_names, to_tokens, to_residuals, to_chains, to_steps, to_ranges, consts-at}
use Rattle.lowering.proofs.Decode.{chains-at, ranges-at, behind-chains, behind-switches}
use Rattle.image_rule.specs.Rules.{names_at, tokens_at, residuals_at, steps_at, step_word, end_at}

module _ (r : Program) where
  -- sections as lists of words
  abbrev name_section : List ℕ
  name_section = section name_words r.pools.names

  abbrev chain_section : List ℕ
  chain_section = section chain_words r.pools.chains

  abbrev step_section : List ℕ
  step_section = steps_words r.pools.steps

  -- where they start
  names-at : length (to_names r) ≡ names_at (words r)
  unfolding names_at words sizes
  names-at =
      let consts = section const_words r.pools.consts in
      omega (arith, consts-at r, length-append (to_consts r) consts, section-length const_words const_width const-width r.pools.consts)

  tokens-at : length (to_tokens r) ≡ tokens_at (words r)
  unfolding tokens_at words sizes
  tokens-at =
      omega (arith, names-at, length-append (to_names r) name_section, section-length name_words name_width name-width r.pools.names)

  residuals-at : length (to_residuals r) ≡ residuals_at (words r)
  unfolding residuals_at words sizes
  residuals-at = omega (arith, tokens-at, length-append (to_tokens r) r.pools.tokens)

  steps-at : length (to_steps r) ≡ steps_at (words r)
  unfolding steps_at words sizes
  steps-at =
      omega (
        arith,
        chains-at r,
        length-append (to_chains r) chain_section,
        section-length chain_words chain_width chain-width r.pools.chains,
      )

  -- the words are as many as the sizes say
  pub end_is : length (words r) ≡ end_at (words r)
  unfolding end_at words sizes
  end_is =
      let last = section range_words r.ranges in
      omega (arith, ranges-at r, length-append (to_ranges r) last, section-length range_words range_width range-width r.ranges)

  -- a part of the words in front of the residuals
  front : {o : ℕ} {xs : List ℕ} → Part (to_residuals r) o xs → Part (words r) o xs
  front t = behind-chains r (part-more chain_section (part-more r.pools.residuals t))

  -- word f of each record, and each token and residual
  pub name-word : (d : Name) (i f : ℕ) → i < length r.pools.names → f < name_width
      → word (words r) (names_at (words r) + name_width * i + f) ≡ get_or (name_words (get_or r.pools.names i d)) f 0
  name-word d i f h g =
      let part = part-last (to_names r) name_section (names_at (words r)) names-at in
      record-word name_words name_width name-width r.pools.names (front (part-more r.pools.tokens part)) d i f h g

  pub token-word : (i : ℕ) → i < length r.pools.tokens → word (words r) (tokens_at (words r) + i) ≡ get_or r.pools.tokens i 0
  token-word i h = part-word (front (part-last (to_tokens r) r.pools.tokens (tokens_at (words r)) tokens-at)) i h

  pub residual-word : (i : ℕ) → i < length r.pools.residuals
      → word (words r) (residuals_at (words r) + i) ≡ get_or r.pools.residuals i 0
  residual-word i h =
      let part = part-last (to_residuals r) r.pools.residuals (residuals_at (words r)) residuals-at in
      part-word (behind-chains r (part-more chain_section part)) i h

  pub step-word : (d : Step) (j f : ℕ) → j < length r.pools.steps → f < step_width
      → step_word (words r) j f ≡ get_or (step_words (get_or r.pools.steps j d)) f 0
  unfolding step_word
  step-word d j f h g =
      let last = part-last (to_steps r) step_section (steps_at (words r)) steps-at in
      let part = behind-switches r (part-more (section switch_words r.switches) last) in
      let steps = r.pools.steps in
      record-word step_words step_width step-width steps (subst (Part (words r) (steps_at (words r))) (steps-section steps) part) d j f h g
