-- What a state that is held says of what has been made: counts, depth, and how few they are.
use Rattle.std.proofs.Common.{◌≡◌, ℕ, ◌≤◌, List, length, ap, ◌∙◌, arith}
use lib.ListN.{length-map}
use Rattle.sheet.specs.Limits.{max_nodes}
use Rattle.sheet.specs.Node.{field_c}
use Rattle.lowering.specs.Limits.{max_emitted}
use Rattle.expr_model.specs.Made.{Made}
use Rattle.scratch.specs.declared.Layout.{Layout}
use Rattle.scratch_store.specs.declared.State.{State}
use Rattle.scratch.specs.Places.{tokens_at, region}
use Rattle.scratch_store.specs.Holds.{Holds}
use Rattle.scratch_store.proofs.AddLaws.{keys-few}

module _ {s : List ℕ} {l : Layout} {xs : List ℕ} {st : State} {a : Made} (h : Holds s l xs st a) where
  pub code_is : st.code ≡ length a.code
  code_is = h.counts.code

  pub code-low : length a.code ≤ a.pools.emitted
  code-low = let c = h.counts in omega (arith, c.code, c.emitted, c.standing)

  pub most-few : l.most ≤ max_emitted
  most-few = h.fit.few

  pub depth_is : st.depth ≡ a.depth
  depth_is = h.counts.depth

  pub depth_low : a.depth ≤ a.pools.emitted
  depth_low = let c = h.counts in omega (arith, c.depth, c.emitted, c.low)

  pub tokens-few : length a.pools.tokens ≤ max_nodes
  tokens-few =
      let k = h.pooled in
      let n = ap length k.tokens ∙ length-map (region (tokens_at l) st.tokens xs) (field_c s) ∙ k.token_keys.count in
      omega (arith, n, keys-few k.token_keys, h.fit.small)
