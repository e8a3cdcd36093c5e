-- An entry added to a pool as the code does it: sought among the keys, and its key written where it is not found.
use Rattle.std.proofs.Common.{◌≡◌, ℕ, ◌+◌, ◌%◌, ◌<◌, ◌≤◌, Bool, eqb, List, map, set, sym, refl, ap, ap₂, ◌∙◌, subst, arith, inl, inr}
use Rattle.std.specs.Prelude.{Some, None}
use Rattle.sheet.specs.Node.{field_c, child}
use Rattle.lowering.specs.Pools.{first_where, const_of, same_const, const_at, same_name, name_at, token_at}
use Rattle.expr_chains.specs.Same.{same_nodes, RootLocal}
use Rattle.expr_chains.specs.Steps.{link_count}
use Rattle.scratch_keys.specs.Keys.{name_of}
use Rattle.scratch_keys.proofs.SeekLaws.{first-map}
use Rattle.scratch_keys.specs.Used.{ConstKey, TokenKey, NameKey, ChainKey}
use Rattle.expr_chains.specs.Pooled.{Pooled}
use Rattle.expr_model.specs.Made.{Made, add_const, add_name, add_token}
use Rattle.expr_model.specs.Construct.{add_chain, chain_place}
use Rattle.scratch.specs.declared.Layout.{Layout}
use Rattle.scratch_store.specs.declared.State.{State}
use Rattle.scratch.specs.declared.Index.{Index}
use Rattle.scratch.specs.Places.{consts_at, tokens_at, chains_at, names_at, sums_from, const_index, token_index, chain_index, name_index}
use Rattle.scratch.specs.Places.{region}
use Rattle.scratch.proofs.PlaceLaws.{name-lies, const-lies, token-lies, chain-lies}
use Rattle.scratch_folds.specs.Sums.{BySums}
use Rattle.scratch_index.specs.Table.{head_at, link_at, tag_of, noted_by}
use Rattle.scratch_index.specs.Lookup.{Sought, Finds, Seeks}
use Rattle.scratch_index.specs.Consts.{const_slot, same_const_of, const_hash, same_token_of, token_hash}
use Rattle.scratch_index.specs.Names.{is_name, name_with, name_hash_of, name_hash, name_slot}
use Rattle.scratch_index.specs.Locals.{Slots}
use Rattle.scratch_index.specs.Held.{names_held}
use Rattle.scratch_index.specs.Chains.{chain_hash, ByNames}
use Rattle.scratch_index.specs.Indexes.{added_to}
use Rattle.scratch_index.proofs.PoolLaws.{pool-sought, pool-asked}
use Rattle.scratch_index.proofs.ConstLaws.{consts-alike, tokens-alike}
use Rattle.scratch_index.proofs.NameLaws.{name-one, name-hashed}
use Rattle.scratch_index.proofs.ChainHashLaws.{chains-alike}
use Rattle.scratch_index.proofs.LookupLaws.{finds-some, finds-none}
use Rattle.scratch_index.proofs.HeldLaws.{name-searched, name-same}
use Rattle.scratch_index.proofs.IndexesLaws.{const-found, token-found, name-found, indexes-names}
use Rattle.scratch_store.specs.Holds.{Holds}
use Rattle.scratch_store.specs.States as states
use Rattle.scratch_store.specs.Stands.{Stands}
use Rattle.scratch_store.specs.Does.{Adds, AddsChain}
use Rattle.scratch_store.proofs.AddLaws.{keys-few, small_of, const-place, const-old, const-new, token-place, token-old, token-new}
use Rattle.scratch_store.proofs.AddLaws.{name-place, name-old, name_new, chain-place, chain-old, chain-new}

-- the words as the code leaves them: by the place of the keys, and by the hash
words-by :
    (ix : Index) (n v slot : ℕ) (xs : List ℕ) {h k at : ℕ} → h ≡ k → ix.at ≡ at
    → noted_by (head_at ix h) (link_at ix slot) (tag_of h) n (set xs (ix.at + n) v) ≡ added_to ix at slot k n v xs
words-by ix n v slot xs e f =
    ap₂ (λ (i p : ℕ). noted_by (head_at ix i) (link_at ix slot) (tag_of i) n (set xs (p + n) v)) e f

-- a search with an equal hash
sought-by :
    {P : ℕ → Bool} {hash slot : ℕ → ℕ} {ix : Index} {n h k : ℕ} {xs : List ℕ} → h ≡ k → Sought P hash slot ix n k xs
    → Sought P hash slot ix n h xs
sought-by {P} {hash} {slot} {ix} {n} {h} {k} {xs} e s = subst (λ (i : ℕ). Sought P hash slot ix n i xs) (sym e) s

module _ (s : List ℕ) (l : Layout) (xs : List ℕ) (c : State) (v h : ℕ) (hashed : BySums s (sums_from l) xs (const_hash s v) h) where
  abbrev keys : List ℕ
  keys = region (consts_at l) c.consts xs

  const-hash-is : (a : Made) → Holds s l xs c a → h ≡ const_hash s v
  const-hash-is a q = hashed.is q.index.sums

  const-fits :
      (i : ℕ) → Finds (same_const_of s v) (const_hash s) const_slot (const_index l) c.consts h xs i → (a : Made) → Holds s l xs c a
      → i ≡ first_where (same_const s (const_of s v)) (map (const_of s) keys)
  const-fits i f a q = const-found q.index v h i (const-hash-is a q) f ∙ sym (first-map (same_const s (const_of s v)) (const_of s) keys)

  const-stood :
      {i : ℕ} → Seeks (same_const_of s v) (const_hash s) const_slot (const_index l) c.consts h xs (Some i)
      → Adds s l xs c xs c i (ConstKey s v) (add_const s (const_of s v)) (λ a. const_at s (const_of s v) a.pools)
  const-stood {i} f = record {
    does = λ g. record {
      holds = λ a q _.
          let e = const-fits i (finds-some f refl) a q in
          let low = f.there (sought-by (const-hash-is a q) (pool-sought (consts-alike s) q.index.consts v)) i refl in
          const-old v q (omega arith);
    };
    place = λ a q. const-fits i (finds-some f refl) a q ∙ const-place v q;
  }

  const-placed :
      Seeks (same_const_of s v) (const_hash s) const_slot (const_index l) c.consts h xs None
      → Adds s l xs c
      (noted_by (head_at (const_index l) h) (link_at (const_index l) (const_slot v)) (tag_of h) c.consts
      (set xs ((const_index l).at + c.consts) v)) (states.with_const c) c.consts (ConstKey s v) (add_const s (const_of s v))
      (λ a. const_at s (const_of s v) a.pools)
  const-placed f = record {
    does = λ g. record {
      holds = λ a q _.
          let k = const-fits c.consts (finds-none f refl) a q in
          rw (words-by (const_index l) c.consts v (const_slot v) xs (const-hash-is a q) (const-lies (small_of q)).at-is)
          (const-new v q g (omega arith));
    };
    place = λ a q. const-fits c.consts (finds-none f refl) a q ∙ const-place v q;
  }

  pub const-adds :
      {ys : List ℕ} {m i : ℕ} → Stands (same_const_of s v) (const_hash s) const_slot (const_index l) v h xs c.consts ys m i
      → Adds s l xs c ys (record c { consts = m }) i (ConstKey s v) (add_const s (const_of s v)) (λ a. const_at s (const_of s v) a.pools)
  const-adds (inl o) = rw (o.words, o.count) (const-stood o.seeks)
  const-adds (inr w) = rw (w.words, w.count, w.place) (const-placed w.seeks)

module _ (s : List ℕ) (l : Layout) (xs : List ℕ) (c : State) (v h : ℕ) (hashed : h ≡ token_hash s v) where
  abbrev token_keys : List ℕ
  token_keys = region (tokens_at l) c.tokens xs

  token-fits :
      (i : ℕ) → Finds (same_token_of s v) (token_hash s) const_slot (token_index l) c.tokens h xs i → (a : Made) → Holds s l xs c a
      → i ≡ first_where (eqb (field_c s v)) (map (field_c s) token_keys)
  token-fits i f a q = token-found q.index v h i hashed f ∙ sym (first-map (eqb (field_c s v)) (field_c s) token_keys)

  token-stood :
      {i : ℕ} → Seeks (same_token_of s v) (token_hash s) const_slot (token_index l) c.tokens h xs (Some i)
      → Adds s l xs c xs c i (TokenKey s v) (add_token (field_c s v)) (λ a. token_at (field_c s v) a.pools)
  token-stood {i} f = record {
    does = λ g. record {
      holds = λ a q _.
          let e = token-fits i (finds-some f refl) a q in
          let low = f.there (sought-by hashed (pool-sought (tokens-alike s) q.index.tokens v)) i refl in
          token-old v q (omega arith);
    };
    place = λ a q. token-fits i (finds-some f refl) a q ∙ token-place v q;
  }

  token-placed :
      Seeks (same_token_of s v) (token_hash s) const_slot (token_index l) c.tokens h xs None
      → Adds s l xs c
      (noted_by (head_at (token_index l) h) (link_at (token_index l) (const_slot v)) (tag_of h) c.tokens
      (set xs ((token_index l).at + c.tokens) v)) (states.with_token c) c.tokens (TokenKey s v) (add_token (field_c s v))
      (λ a. token_at (field_c s v) a.pools)
  token-placed f = record {
    does = λ g. record {
      holds = λ a q _.
          let k = token-fits c.tokens (finds-none f refl) a q in
          rw (words-by (token_index l) c.tokens v (const_slot v) xs hashed (token-lies (small_of q)).at-is)
          (token-new v q g (omega arith));
    };
    place = λ a q. token-fits c.tokens (finds-none f refl) a q ∙ token-place v q;
  }

  pub token-adds :
      {ys : List ℕ} {m i : ℕ} → Stands (same_token_of s v) (token_hash s) const_slot (token_index l) v h xs c.tokens ys m i
      → Adds s l xs c ys (record c { tokens = m }) i (TokenKey s v) (add_token (field_c s v)) (λ a. token_at (field_c s v) a.pools)
  token-adds (inl o) = rw (o.words, o.count) (token-stood o.seeks)
  token-adds (inr w) = rw (w.words, w.count, w.place) (token-placed w.seeks)

module _
    (s : List ℕ) (l : Layout) (xs : List ℕ) (c : State) (v t h : ℕ) (m : Bool) (w : ℕ) (is : name_with s t m w ≡ name_of s v)
    (hashed : BySums s (sums_from l) xs (name_hash_of s (name_with s t m w)) h)
  where
    abbrev name_keys : List ℕ
    name_keys = region (names_at l) c.names xs

    name-hash-is : (a : Made) → Holds s l xs c a → h ≡ name_hash s v
    name-hash-is a q = hashed.is q.index.sums ∙ ap (name_hash_of s) is

    name-fits :
        (i : ℕ) → Finds (is_name s (name_with s t m w)) (name_hash s) name_slot (name_index l) c.names h xs i → (a : Made)
        → Holds s l xs c a → i ≡ first_where (same_name s (name_of s v)) (map (name_of s) name_keys)
    name-fits i f a q =
        name-found q.index v i (name-same s l c.names xs is (name-searched s l c.names xs (name_with s t m w) h i hashed f))
        ∙ sym (first-map (same_name s (name_of s v)) (name_of s) name_keys)

    name-sought : (a : Made) → Holds s l xs c a → Sought (is_name s (name_with s t m w)) (name_hash s) name_slot (name_index l) c.names h xs
    name-sought a q =
        let nm = name_with s t m w in
        sought-by (hashed.is q.index.sums)
        (pool-asked q.index.names (is_name s nm) (name_hash_of s nm) (name-one s nm) (λ k b. name-hashed s nm (name_of s k) b))

    name-stood :
        {i : ℕ} → Seeks (is_name s (name_with s t m w)) (name_hash s) name_slot (name_index l) c.names h xs (Some i)
        → Adds s l xs c xs c i (NameKey s v) (add_name s (name_of s v)) (λ a. name_at s (name_of s v) a.pools)
    name-stood {i} f = record {
      does = λ g. record {
        holds = λ a q _.
            let e = name-fits i (finds-some f refl) a q in
            let low = f.there (name-sought a q) i refl in
            name-old v q (omega arith);
      };
      place = λ a q. name-fits i (finds-some f refl) a q ∙ name-place v q;
    }

    name-placed :
        Seeks (is_name s (name_with s t m w)) (name_hash s) name_slot (name_index l) c.names h xs None
        → Adds s l xs c
        (noted_by (head_at (name_index l) h) (link_at (name_index l) (name_slot v)) (tag_of h) c.names
        (set xs ((name_index l).at + c.names) v)) (states.with_name c) c.names (NameKey s v) (add_name s (name_of s v))
        (λ a. name_at s (name_of s v) a.pools)
    name-placed f = record {
      does = λ g. record {
        holds = λ a q _.
            let k = name-fits c.names (finds-none f refl) a q in
            rw (words-by (name_index l) c.names v (name_slot v) xs (name-hash-is a q) (name-lies (small_of q)).at-is)
            (name_new v q g (omega arith));
      };
      place = λ a q. name-fits c.names (finds-none f refl) a q ∙ name-place v q;
    }

    pub name-adds :
        {ys : List ℕ} {k i : ℕ} → Stands (is_name s (name_with s t m w)) (name_hash s) name_slot (name_index l) v h xs c.names ys k i
        → Adds s l xs c ys (record c { names = k }) i (NameKey s v) (add_name s (name_of s v)) (λ a. name_at s (name_of s v) a.pools)
    name-adds (inl o) = rw (o.words, o.count) (name-stood o.seeks)
    name-adds (inr o) = rw (o.words, o.count, o.place) (name-placed o.seeks)

-- a chain; the code counts its steps where the count of chains has gone up
module _
    (s : List ℕ) (l : Layout) (xs ys : List ℕ) (c : State) (v h m i : ℕ) (local : Bool)
    (told : Slots s l xs → RootLocal s (child v) local)
    (hashed : RootLocal s (child v) local → ByNames s l c.names xs (chain_hash s (names_held s l c.names xs) v) h)
    (stands : (hash : ℕ → ℕ) → RootLocal s (child v) local
    → Stands (same_nodes s v) hash const_slot (chain_index l) v h xs c.chains ys m i)
  where
    abbrev hash : ℕ → ℕ
    hash = chain_hash s (names_held s l c.names xs)

    chain-hash-is : (a : Made) → Holds s l xs c a → h ≡ hash v
    chain-hash-is a q = (hashed (told q.index.slots)).is (indexes-names q.index)

    chain-sought : (a : Made) → Holds s l xs c a → Sought (same_nodes s v) hash const_slot (chain_index l) c.chains h xs
    chain-sought a q = sought-by (chain-hash-is a q) (pool-sought (chains-alike s (names_held s l c.names xs)) q.index.chains v)

    chain_fits :
        (k : ℕ) → Finds (same_nodes s v) hash const_slot (chain_index l) c.chains h xs k → (a : Made) → Holds s l xs c a
        → k ≡ first_where (same_nodes s v) (region (chains_at l) c.chains xs)
    chain_fits k f a q =
        f.found (chain-sought a q)
        ∙ ap (λ (at : ℕ). first_where (same_nodes s v) (region at c.chains xs)) (chain-lies (small_of q)).at-is

    abbrev Case : Type 0
    Case = Stands (same_nodes s v) hash const_slot (chain_index l) v h xs c.chains ys m i

    place-by : (a : Made) → Holds s l xs c a → Pooled s a.pools.names v → Case → i ≡ chain_place s v a
    place-by a q k (inl o) = chain_fits i (finds-some o.seeks refl) a q ∙ chain-place v q k
    place-by a q k (inr w) = w.place ∙ chain_fits c.chains (finds-none w.seeks refl) a q ∙ chain-place v q k

    chain-placed : (a : Made) → Holds s l xs c a → Pooled s a.pools.names v → i ≡ chain_place s v a
    chain-placed a q k = place-by a q k (stands hash (told q.index.slots))

    old-by : m ≤ c.chains → (a : Made) → Holds s l xs c a → Pooled s a.pools.names v → Case
        → Holds s l ys (record c { chains = m }) (add_chain s v a)
    old-by less a q k (inl o) =
        let e = chain_fits i (finds-some o.seeks refl) a q in
        let low = o.seeks.there (chain-sought a q) i refl in
        rw (o.words, o.count) (chain-old v q k (omega arith))
    old-by less a q k (inr w) =
        let few = keys-few q.pooled.chain_keys in
        let small = q.fit.small in
        let n = w.count in
        absurd (omega arith)

    pub chain-adds-old : m ≤ c.chains → AddsChain s l xs c ys (record c { chains = m }) i v
    chain-adds-old less = record {
      holds = λ g a q k. old-by less a q k (stands hash (told q.index.slots));
      place = chain-placed;
    }

    new-by : c.chains < m → ChainKey s v → (a : Made) → Holds s l xs c a → Pooled s a.pools.names v → Case
        → Holds s l ys (record c { chains = m; steps = (c.steps + link_count s v) % 4294967296 }) (add_chain s v a)
    new-by more g a q k (inl o) = let n = o.count in absurd (omega arith)
    new-by more g a q k (inr w) =
        let b = chain_fits c.chains (finds-none w.seeks refl) a q in
        let n = q.fit.nodes in
        let low = g.below in
        rw (w.words, w.count, words-by (chain_index l) c.chains v (const_slot v) xs (chain-hash-is a q) (chain-lies (small_of q)).at-is)
        (chain-new v q k (omega arith) (omega arith) g)

    pub chain-adds-new :
        c.chains < m → AddsChain s l xs c ys (record c { chains = m; steps = (c.steps + link_count s v) % 4294967296 }) i v
    chain-adds-new more = record {
      holds = λ g a q k. new-by more g a q k (stands hash (told q.index.slots));
      place = chain-placed;
    }
