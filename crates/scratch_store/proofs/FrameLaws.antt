-- What stays held where words outside a list change.
use Rattle.std.proofs.Common.{◌≡◌, ℕ, ◌*◌, ◌<◌, ◌≤◌, List, map, length, set, sym, ap, ◌∙◌, subst, arith}
use Rattle.sheet.specs.Node.{field_c}
use Rattle.lowering.specs.Limits.{names_per_node}
use Rattle.lowering.specs.Pools.{const_of}
use Rattle.expr_chains.specs.Kept.{Kept}
use Rattle.scratch_keys.specs.Keys.{name_of}
use Rattle.expr_model.specs.Made.{Made}
use Rattle.scratch.specs.declared.Layout.{Layout}
use Rattle.scratch_store.specs.declared.State.{State}
use Rattle.scratch.specs.Places.{consts_at, tokens_at, chains_at, names_at, region}
use Rattle.scratch_store.specs.Distinct.{Distinct, Below}
use Rattle.scratch.proofs.RegionLaws.{region-before}
use Rattle.scratch_store.specs.Holds.{Keys, Fit, Laid, PoolsHeld}

pub fit_same : {s : List ℕ} {l : Layout} {xs ys : List ℕ} → length ys ≡ length xs → Fit s l xs → Fit s l ys
fit_same e h = let k = h.space in record { space = omega arith; few = h.few; nodes = h.nodes; small = h.small }

-- the layout and the steps are the same
pub laid_same :
    {l : Layout} {st : State} {a : Made} (r : State) (b : Made) → r.layout ≡ st.layout → r.steps ≡ st.steps
    → st.chains ≤ r.chains → b.pools.steps ≡ a.pools.steps → Laid l st a → Laid l r b
laid_same r b m k c e h = record {
  layout = m ∙ h.layout;
  steps = k ∙ h.steps ∙ ap length (sym e);
  few = let f = h.few in omega arith;
}

pub keys-same : {at n k : ℕ} {xs : List ℕ} (ys : List ℕ) → region at k ys ≡ region at k xs → Keys at n k xs → Keys at n k ys
keys-same {n = n} ys e h = record {
  distinct = subst Distinct (sym e) h.distinct;
  below = subst (Below n) (sym e) h.below;
  count = ap length e ∙ h.count;
}

-- the four regions of keys are the same
pub record SameKeys (l : Layout) (st : State) (xs ys : List ℕ) : Type 0 where
  pub consts : region (consts_at l) st.consts ys ≡ region (consts_at l) st.consts xs
  pub tokens : region (tokens_at l) st.tokens ys ≡ region (tokens_at l) st.tokens xs
  pub chains : region (chains_at l) st.chains ys ≡ region (chains_at l) st.chains xs
  pub names : region (names_at l) st.names ys ≡ region (names_at l) st.names xs

-- the same entries in both pools
pub record SamePools (s : List ℕ) (a b : Made) : Type 0 where
  pub consts : b.pools.consts ≡ a.pools.consts
  pub tokens : b.pools.tokens ≡ a.pools.tokens
  pub names : b.pools.names ≡ a.pools.names
  pub chains : (ks : List ℕ) → Kept s a.pools ks → Kept s b.pools ks

pub pools-same : {s : List ℕ} {l : Layout} {xs ys : List ℕ} {st : State} {a b : Made} → SameKeys l st xs ys → SamePools s a b
    → PoolsHeld s l xs st a → PoolsHeld s l ys st b
pools-same {s} {l} {xs} {ys} {st} {a} {b} k p h = record {
  const_keys = keys-same ys k.consts h.const_keys;
  token_keys = keys-same ys k.tokens h.token_keys;
  chain_keys = keys-same ys k.chains h.chain_keys;
  name_keys = keys-same ys k.names h.name_keys;
  consts = p.consts ∙ h.consts ∙ ap (map (const_of s)) (sym k.consts);
  tokens = p.tokens ∙ h.tokens ∙ ap (map (field_c s)) (sym k.tokens);
  names = p.names ∙ h.names ∙ ap (map (name_of s)) (sym k.names);
  chains = subst (Kept s b.pools) (sym k.chains) (p.chains (region (chains_at l) st.chains xs) h.chains);
}

-- counts with the same keys
pub record SameCounts (st r : State) : Type 0 where
  pub consts : r.consts ≡ st.consts
  pub tokens : r.tokens ≡ st.tokens
  pub chains : r.chains ≡ st.chains
  pub names : r.names ≡ st.names

pub pools-counts : {s : List ℕ} {l : Layout} {xs : List ℕ} {st : State} {a : Made} (r : State) → SameCounts st r → PoolsHeld s l xs st a
    → PoolsHeld s l xs r a
pools-counts {s} {l} {xs} {st} {a} r k h = record {
  const_keys = subst (λ (n : ℕ). Keys (consts_at l) l.nodes n xs) (sym k.consts) h.const_keys;
  token_keys = subst (λ (n : ℕ). Keys (tokens_at l) l.nodes n xs) (sym k.tokens) h.token_keys;
  chain_keys = subst (λ (n : ℕ). Keys (chains_at l) l.nodes n xs) (sym k.chains) h.chain_keys;
  name_keys = subst (λ (n : ℕ). Keys (names_at l) (names_per_node * l.nodes) n xs) (sym k.names) h.name_keys;
  consts = h.consts ∙ ap (λ (n : ℕ). map (const_of s) (region (consts_at l) n xs)) (sym k.consts);
  tokens = h.tokens ∙ ap (λ (n : ℕ). map (field_c s) (region (tokens_at l) n xs)) (sym k.tokens);
  names = h.names ∙ ap (λ (n : ℕ). map (name_of s) (region (names_at l) n xs)) (sym k.names);
  chains = subst (λ (n : ℕ). Kept s a.pools (region (chains_at l) n xs)) (sym k.chains) h.chains;
}

-- a word before all keys
pub same_keys : (l : Layout) (st : State) (i v : ℕ) (xs : List ℕ) → i < consts_at l → SameKeys l st xs (set xs i v)
same_keys l st i v xs h = record {
  consts = region-before (consts_at l) st.consts i v xs h;
  tokens = region-before (tokens_at l) st.tokens i v xs (omega arith);
  chains = region-before (chains_at l) st.chains i v xs (omega arith);
  names = region-before (names_at l) st.names i v xs (omega arith);
}

pub same-keys-then : {l : Layout} {st : State} {xs ys zs : List ℕ} → SameKeys l st xs ys → SameKeys l st ys zs → SameKeys l st xs zs
same-keys-then h k = record {
  consts = k.consts ∙ h.consts;
  tokens = k.tokens ∙ h.tokens;
  chains = k.chains ∙ h.chains;
  names = k.names ∙ h.names;
}
