-- All indexes together: they stay where words before them are written, and grow by one entry where it is added. In each law the words are
-- those that the code leaves.
use Rattle.std.proofs.Common.{◌≡◌, ℕ, zero, suc, ◌+◌, ◌*◌, ◌<◌, ◌≤◌, Bool, true, List, [], ◌∷◌, ◌++◌, map, length, get_or, set, sym, ap}
use Rattle.std.proofs.Common.{◌∙◌, subst, arith}
use mathlib.Core.List.{map-append}
use lib.Seq.{sets}
use Rattle.expr_chains.proofs.NameLaws.{name-self}
use Rattle.sheet.specs.Sections.{node_count}
use Rattle.sheet.specs.Node.{child}
use Rattle.lowering.specs.Limits.{names_per_node}
use Rattle.lowering.specs.Pools.{Name, first_where}
use Rattle.expr_chains.specs.Same.{same_nodes, RootLocal}
use Rattle.expr_chains.proofs.Grow.{Grows}
use Rattle.expr_chains.specs.Pooled.{All, Pooled}
use Rattle.scratch_keys.specs.Keys.{name_of}
use Rattle.scratch_keys.specs.Used.{ConstKey, TokenKey, ChainKey, NameKey}
use Rattle.scratch.specs.declared.Layout.{Layout}
use Rattle.scratch.specs.declared.Index.{Index}
use Rattle.scratch.specs.Places.{Small, links_at, consts_at, tokens_at, chains_at, names_at, memos_at, memos_from, sums_from, index_end}
use Rattle.scratch.specs.Places.{region}
use Rattle.scratch.specs.Places.{const_index, token_index, chain_index, name_index}
use Rattle.scratch.proofs.RegionLaws.{region-before, region-behind}
use Rattle.scratch.proofs.PlaceLaws.{name-lies, const-lies, token-lies, chain-lies, memos-lie}
use Rattle.scratch_folds.specs.Sums.{Sums}
use Rattle.scratch_index.specs.Table.{head_at, link_at, tag_of, noted_by}
use Rattle.scratch_index.specs.Lookup.{Finds}
use Rattle.scratch_index.specs.Pool.{Pool}
use Rattle.scratch_index.specs.Consts.{const_slot, same_const_of, const_hash, same_token_of, token_hash}
use Rattle.scratch_index.specs.Names.{same_name_of, name_hash, name_slot}
use Rattle.scratch_index.specs.Memo.{Told, NameAt, memo_at, remembered}
use Rattle.scratch_index.specs.Held.{names_held, NamePool, NamesHold, FindsName}
use Rattle.scratch_index.specs.Chains.{chain_hash, FindsChain}
use Rattle.scratch_index.specs.Locals.{Slots}
use Rattle.scratch_index.specs.Indexes.{ConstPool, TokenPool, ChainPool, Indexes, added_to, const_added, token_added, chain_added}
use Rattle.scratch_index.specs.Indexes.{name_added}
use Rattle.scratch_index.proofs.PoolLaws.{entered, pool-length, pool-sought, pool-new, pool-pushed}
use Rattle.scratch_index.proofs.BesideLaws.{pool-beside, pool-rehashed}
use Rattle.scratch_index.proofs.ConstLaws.{consts-alike, const-self, const-word, tokens-alike, token-self, token-word}
use Rattle.scratch_index.proofs.NameLaws.{names-alike, name-word}
use Rattle.scratch_index.proofs.HeldLaws.{name_keys}
use Rattle.scratch_index.proofs.MemoLaws.{told-set, told-keeps, told_names}
use Rattle.scratch_index.proofs.ChainHashLaws.{chains-alike, chain-word, chain-stays}
use Rattle.scratch_index.proofs.LodgeLaws.{Lodged, outside-before, outside-memos, key-place, link-place}
use Rattle.scratch_index.proofs.LodgeLaws.{head-place, lodged-lists, lodged-other, beside-swap}
use Rattle.scratch_index.proofs.LodgeLaws.{const-lodged, token-lodged, chain-lodged, name-lodged}
use Rattle.scratch_index.proofs.LodgeLaws.{const-token-beside, const-chain-beside, const-name-beside}
use Rattle.scratch_index.proofs.LodgeLaws.{token-chain-beside, token-name-beside, chain-name-beside}
use Rattle.scratch_index.proofs.SlotLaws.{variable-const, variable-token, variable-chain, variable-name}
use Rattle.scratch_index.proofs.LocalLaws.{slots_set, slots-entered, sums-before, sums-entered}

-- the words by the index's own place of the keys
added_is :
    (hash slot : ℕ → ℕ) (ix : Index) (at n j : ℕ) (xs : List ℕ) → ix.at ≡ at
    → entered hash slot ix n j xs ≡ added_to ix at (slot j) (hash j) n j xs
added_is hash slot ix at n j xs e =
    ap (λ (i : ℕ). noted_by (head_at ix (hash j)) (link_at ix (slot j)) (tag_of (hash j)) n (set xs (i + n) j)) e

-- lists before the links have, of all that is written, the key only
added-lists :
    {l : Layout} {Used : ℕ → Type 0} {slot : ℕ → ℕ} {ix : Index} {cap : ℕ} → Lodged l Used slot ix cap → (place : ℕ) → ix.at ≡ place
    → (hash : ℕ → ℕ) (n j at k : ℕ) (xs : List ℕ) → Used j → hash j < 4294967296 → at + k ≤ links_at l
    → region at k (added_to ix place (slot j) (hash j) n j xs) ≡ region at k (set xs (place + n) j)
added-lists {slot = slot} {ix = ix} d place e hash n j at k xs u w h =
    ap (region at k) (sym (added_is hash slot ix place n j xs e))
    ∙ lodged-lists d hash n j at k xs u w h
    ∙ ap (λ (i : ℕ). region at k (set xs (i + n) j)) e

module _
    {s : List ℕ} {l : Layout} (small : Small l) (nodes : l.nodes ≡ node_count s) (n j at k : ℕ) (xs : List ℕ)
    (h : at + k ≤ links_at l)
  where
    pub const-lists : ConstKey s j → region at k (const_added s l n j xs) ≡ region at k (set xs (consts_at l + n) j)
    const-lists u =
        added-lists (const-lodged small nodes) (consts_at l) (const-lies small).at-is (const_hash s) n j at k xs u (const-word s j) h

    pub token-lists : TokenKey s j → region at k (token_added s l n j xs) ≡ region at k (set xs (tokens_at l + n) j)
    token-lists u =
        added-lists (token-lodged small nodes) (tokens_at l) (token-lies small).at-is (token_hash s) n j at k xs u (token-word s j) h

    pub chain-lists : (ks : List Name) → ChainKey s j → region at k (chain_added s l ks n j xs) ≡ region at k (set xs (chains_at l + n) j)
    chain-lists ks u =
        added-lists (chain-lodged small nodes) (chains_at l) (chain-lies small).at-is (chain_hash s ks) n j at k xs u (chain-word s ks j) h

    pub name-lists : NameKey s j → region at k (name_added s l n j xs) ≡ region at k (set xs (names_at l + n) j)
    name-lists u =
        added-lists (name-lodged small nodes) (names_at l) (name-lies small).at-is (name_hash s) n j at k xs u (name-word s (name_of s j)) h

-- a fact of each entry, by its place
all-at : (P : ℕ → Type 0) (ks : List ℕ) → All P ks → (e : ℕ) → e < length ks → P (get_or ks e 0)
all-at P [] a e h = absurd (omega arith)
all-at P (k ∷ ks) a zero h = a.0
all-at P (k ∷ ks) a (suc e) h = all-at P ks a.1 e (omega arith)

module _ {s : List ℕ} {l : Layout} {cs ts hs ns : ℕ} {xs : List ℕ} (x : Indexes s l cs ts hs ns xs) where
  -- the names and their memos
  pub indexes-names : NamesHold s l ns xs
  indexes-names = record { small = x.small; pool = x.names; memos = x.memos; slots = x.slots; sums = x.sums }

  indexes-room : index_end l ≤ length xs
  indexes-room =
      let i = chain-lies x.small in
      let r = x.chains.room.heads in
      omega arith

  -- what a search finds
  pub const-found :
      (j h r : ℕ) → h ≡ const_hash s j → Finds (same_const_of s j) (const_hash s) const_slot (const_index l) cs h xs r
      → r ≡ first_where (same_const_of s j) (region (consts_at l) cs xs)
  const-found j h r e f =
      (subst (λ (g : ℕ). Finds (same_const_of s j) (const_hash s) const_slot (const_index l) cs g xs r) e f).found
      (pool-sought (consts-alike s) x.consts j)
      ∙ ap (λ (at : ℕ). first_where (same_const_of s j) (region at cs xs)) (const-lies x.small).at-is

  pub token-found :
      (j h r : ℕ) → h ≡ token_hash s j → Finds (same_token_of s j) (token_hash s) const_slot (token_index l) ts h xs r
      → r ≡ first_where (same_token_of s j) (region (tokens_at l) ts xs)
  token-found j h r e f =
      (subst (λ (g : ℕ). Finds (same_token_of s j) (token_hash s) const_slot (token_index l) ts g xs r) e f).found
      (pool-sought (tokens-alike s) x.tokens j)
      ∙ ap (λ (at : ℕ). first_where (same_token_of s j) (region at ts xs)) (token-lies x.small).at-is

  pub chain-found :
      (j h r : ℕ) (local : Bool) → RootLocal s (child j) local → h ≡ chain_hash s (names_held s l ns xs) j
      → FindsChain s j local (chain_index l) hs h xs r → r ≡ first_where (same_nodes s j) (region (chains_at l) hs xs)
  chain-found j h r local told e f =
      let held = names_held s l ns xs in
      (subst (λ (g : ℕ). Finds (same_nodes s j) (chain_hash s held) const_slot (chain_index l) hs g xs r) e
      (f.found (chain_hash s held) told)).found (pool-sought (chains-alike s held) x.chains j)
      ∙ ap (λ (at : ℕ). first_where (same_nodes s j) (region at hs xs)) (chain-lies x.small).at-is

  pub name-found : (k r : ℕ) → FindsName s l ns (name_of s k) xs r → r ≡ first_where (same_name_of s k) (region (names_at l) ns xs)
  name-found k r f = f.found indexes-names ∙ name_keys s l ns xs (name_of s k)

  -- where the names are the same, so are the memos and the hashes of chains
  same_names :
      {ys : List ℕ} → names_held s l ns ys ≡ names_held s l ns xs → ConstPool s l cs ys → TokenPool s l ts ys
      → ChainPool s l (names_held s l ns xs) hs ys → NamePool s l ns ys → Told (NameAt s (names_held s l ns xs)) (memos_at l) ys
      → Slots s l ys → Sums s (sums_from l) ys → Indexes s l cs ts hs ns ys
  same_names {ys} e c t h n m v f = record {
    small = x.small;
    nodes = x.nodes;
    consts = c;
    tokens = t;
    chains = subst (λ (ks : List Name). ChainPool s l ks hs ys) (sym e) h;
    names = n;
    memos = subst (λ (ks : List Name). Told (NameAt s ks) (memos_at l) ys) (sym e) m;
    slots = v;
    sums = f;
  }

  -- a word before all keys is written
  pub indexes-before : (i v : ℕ) → i < consts_at l → Indexes s l cs ts hs ns (set xs i v)
  unfolding names_held
  indexes-before i v h =
      same_names (ap (map (name_of s)) (region-before (names_at l) ns i v xs (omega arith)))
      (pool-beside x.consts i v (outside-before (const-lodged x.small x.nodes) i h))
      (pool-beside x.tokens i v (outside-before (token-lodged x.small x.nodes) i h))
      (pool-beside x.chains i v (outside-before (chain-lodged x.small x.nodes) i h))
      (pool-beside x.names i v (outside-before (name-lodged x.small x.nodes) i h))
      (told-set i v x.memos (λ k m q. omega arith))
      (slots_set i v (λ j b k q. omega arith) x.slots)
      (sums-before x.small i v (omega arith) x.sums)

  -- a memo of a name that stands is written
  module _ (t p : ℕ) (few : t + 1 < 4294967296) (right : NameAt s (names_held s l ns xs) t p) where
    abbrev first : ℕ
    first = memo_at (memos_at l) t

    -- a pool keeps its entries
    memo-beside :
        {same : ℕ → ℕ → Bool} {hash : ℕ → ℕ} {Used : ℕ → Type 0} {slot : ℕ → ℕ} {ix : Index} {cap n : ℕ} → Lodged l Used slot ix cap
        → Pool same hash Used slot ix cap n xs → Pool same hash Used slot ix cap n (remembered (memos_at l) t p xs)
    unfolding remembered
    memo-beside d q =
        pool-beside (pool-beside q first _ (outside-memos d first (omega arith) (omega arith))) (first + 1) p
        (outside-memos d (first + 1) (omega arith) (omega arith))

    memo-names : names_held s l ns (remembered (memos_at l) t p xs) ≡ names_held s l ns xs
    unfolding names_held remembered
    memo-names =
        let f = x.names.fit in
        ap (map (name_of s))
        (region-behind (names_at l) ns (first + 1) p _ (omega arith) ∙ region-behind (names_at l) ns first _ xs (omega arith))

    memo-slots : Slots s l (remembered (memos_at l) t p xs)
    unfolding remembered
    memo-slots =
        slots_set (first + 1) p (λ j b k q. omega arith) (slots_set first _ (λ j b k q. omega arith) x.slots)

    memo-sums : Sums s (sums_from l) (remembered (memos_at l) t p xs)
    unfolding remembered
    memo-sums =
        sums-before x.small (first + 1) p (omega arith) (sums-before x.small first _ (omega arith) x.sums)

    pub indexes-remember : Indexes s l cs ts hs ns (remembered (memos_from l) t p xs)
    indexes-remember =
        let room = indexes-room in
        subst (λ (ms : ℕ). Indexes s l cs ts hs ns (remembered ms t p xs)) (sym (memos-lie x.small))
        (same_names memo-names
        (memo-beside (const-lodged x.small x.nodes) x.consts)
        (memo-beside (token-lodged x.small x.nodes) x.tokens)
        (memo-beside (chain-lodged x.small x.nodes) x.chains)
        (memo-beside (name-lodged x.small x.nodes) x.names)
        (told-keeps x.memos t p few (omega arith) right)
        memo-slots
        memo-sums)

  -- the memos are outside of what an entry of any pool takes
  memos-kept :
      {Used : ℕ → Type 0} {slot : ℕ → ℕ} {ix : Index} {cap : ℕ} {Right : ℕ → ℕ → Type 0} → Lodged l Used slot ix cap
      → (hash : ℕ → ℕ) (n j : ℕ) → Used j → n < cap → hash j < 4294967296 → Told Right (memos_at l) xs
      → Told Right (memos_at l) (entered hash slot ix n j xs)
  unfolding noted_by
  memos-kept {slot = slot} {ix = ix} d hash n j u h w t =
      let k = (key-place d n h).1 in
      let p = (link-place d j u).1 in
      let q = (head-place d (hash j) w).0 in
      told-set (head_at ix (hash j)) _
      (told-set (link_at ix (slot j)) _ (told-set (ix.at + n) j t (λ i m z. omega arith)) (λ i m z. omega arith))
      (λ i m z. omega arith)

  -- the names where a key of another pool, before theirs, is added
  names-kept :
      {Used : ℕ → Type 0} {slot : ℕ → ℕ} {ix : Index} {cap : ℕ} → Lodged l Used slot ix cap → (hash : ℕ → ℕ) (n j : ℕ) → Used j
      → n < cap → hash j < 4294967296 → ix.at + cap ≤ names_at l
      → names_held s l ns (entered hash slot ix n j xs) ≡ names_held s l ns xs
  unfolding names_held
  names-kept {ix = ix} d hash n j u h w b =
      let f = x.names.fit in
      ap (map (name_of s))
      (lodged-lists d hash n j (names_at l) ns xs u w (omega arith)
      ∙ region-before (names_at l) ns (ix.at + n) j xs (omega arith))

-- several words before all keys
pub indexes-sets :
    {s : List ℕ} {l : Layout} {cs ts hs ns : ℕ} (vs xs : List ℕ) (i : ℕ) → i + length vs ≤ consts_at l → Indexes s l cs ts hs ns xs
    → Indexes s l cs ts hs ns (sets xs i vs)
indexes-sets [] xs i h x = x
indexes-sets (v ∷ vs) xs i h x = indexes-sets vs (set xs i v) (suc i) (omega arith) (indexes-before x i v (omega arith))

module _ {s : List ℕ} {l : Layout} {cs ts hs ns : ℕ} {xs : List ℕ} (x : Indexes s l cs ts hs ns xs) where
  -- the constant of node j is added
  module _
      (j : ℕ) (used : ConstKey s j) (new : cs ≤ first_where (same_const_of s j) (region (consts_at l) cs xs)) (space : cs < l.nodes)
    where
      const-entered : Indexes s l (cs + 1) ts hs ns (entered (const_hash s) const_slot (const_index l) cs j xs)
      const-entered =
          let small = x.small in
          let nodes = x.nodes in
          let d = const-lodged {s = s} small nodes in
          let w = const-word s j in
          let i = const-lies small in
          let e = names-kept x d (const_hash s) cs j used space w (omega arith) in
          let ys = entered (const_hash s) const_slot (const_index l) cs j xs in
          record {
            small = small;
            nodes = nodes;
            consts =
                pool-new (consts-alike s) x.consts j (const-self s j) used
                (subst (λ (at : ℕ). cs ≤ first_where (same_const_of s j) (region at cs xs)) (sym i.at-is) new) space;
            tokens =
                lodged-other (token-lodged small nodes) d (beside-swap (const-token-beside small nodes)) x.tokens (const_hash s) cs j used
                space w;
            chains =
                subst (λ (ks : List Name). ChainPool s l ks hs ys) (sym e)
                (lodged-other (chain-lodged small nodes) d (beside-swap (const-chain-beside small nodes)) x.chains (const_hash s) cs j
                used space w);
            names =
                lodged-other (name-lodged small nodes) d (beside-swap (const-name-beside small nodes)) x.names (const_hash s) cs j used
                space w;
            memos =
                subst (λ (ks : List Name). Told (NameAt s ks) (memos_at l) ys) (sym e)
                (memos-kept x d (const_hash s) cs j used space w x.memos);
            slots = slots-entered d (variable-const s) (const_hash s) cs j used space w x.slots;
            sums = sums-entered small d (const_hash s) cs j used space w x.sums;
          }

      pub indexes-const : Indexes s l (cs + 1) ts hs ns (const_added s l cs j xs)
      indexes-const =
          subst (Indexes s l (cs + 1) ts hs ns)
          (added_is (const_hash s) const_slot (const_index l) (consts_at l) cs j xs (const-lies x.small).at-is) const-entered

  -- its token
  module _
      (j : ℕ) (used : TokenKey s j) (new : ts ≤ first_where (same_token_of s j) (region (tokens_at l) ts xs)) (space : ts < l.nodes)
    where
      token-entered : Indexes s l cs (ts + 1) hs ns (entered (token_hash s) const_slot (token_index l) ts j xs)
      token-entered =
          let small = x.small in
          let nodes = x.nodes in
          let d = token-lodged {s = s} small nodes in
          let w = token-word s j in
          let i = token-lies small in
          let e = names-kept x d (token_hash s) ts j used space w (omega arith) in
          let ys = entered (token_hash s) const_slot (token_index l) ts j xs in
          record {
            small = small;
            nodes = nodes;
            consts =
                lodged-other (const-lodged small nodes) d (const-token-beside small nodes) x.consts (token_hash s) ts j used space w;
            tokens =
                pool-new (tokens-alike s) x.tokens j (token-self s j) used
                (subst (λ (at : ℕ). ts ≤ first_where (same_token_of s j) (region at ts xs)) (sym i.at-is) new) space;
            chains =
                subst (λ (ks : List Name). ChainPool s l ks hs ys) (sym e)
                (lodged-other (chain-lodged small nodes) d (beside-swap (token-chain-beside small nodes)) x.chains (token_hash s) ts j
                used space w);
            names =
                lodged-other (name-lodged small nodes) d (beside-swap (token-name-beside small nodes)) x.names (token_hash s) ts j used
                space w;
            memos =
                subst (λ (ks : List Name). Told (NameAt s ks) (memos_at l) ys) (sym e)
                (memos-kept x d (token_hash s) ts j used space w x.memos);
            slots = slots-entered d (variable-token s) (token_hash s) ts j used space w x.slots;
            sums = sums-entered small d (token_hash s) ts j used space w x.sums;
          }

      pub indexes-token : Indexes s l cs (ts + 1) hs ns (token_added s l ts j xs)
      indexes-token =
          subst (Indexes s l cs (ts + 1) hs ns)
          (added_is (token_hash s) const_slot (token_index l) (tokens_at l) ts j xs (token-lies x.small).at-is) token-entered

  -- its chain, of which each link has a step (`self`)
  module _
      (j : ℕ) (self : same_nodes s j j ≡ true) (used : ChainKey s j)
      (new : hs ≤ first_where (same_nodes s j) (region (chains_at l) hs xs)) (space : hs < l.nodes)
    where
      abbrev hash : ℕ → ℕ
      hash = chain_hash s (names_held s l ns xs)

      chain-entered : Indexes s l cs ts (hs + 1) ns (entered hash const_slot (chain_index l) hs j xs)
      chain-entered =
          let small = x.small in
          let nodes = x.nodes in
          let held = names_held s l ns xs in
          let d = chain-lodged {s = s} small nodes in
          let w = chain-word s held j in
          let i = chain-lies small in
          let e = names-kept x d hash hs j used space w (omega arith) in
          let ys = entered hash const_slot (chain_index l) hs j xs in
          record {
            small = small;
            nodes = nodes;
            consts = lodged-other (const-lodged small nodes) d (const-chain-beside small nodes) x.consts hash hs j used space w;
            tokens = lodged-other (token-lodged small nodes) d (token-chain-beside small nodes) x.tokens hash hs j used space w;
            chains =
                subst (λ (ks : List Name). ChainPool s l ks (hs + 1) ys) (sym e)
                (pool-new (chains-alike s held) x.chains j self used
                (subst (λ (at : ℕ). hs ≤ first_where (same_nodes s j) (region at hs xs)) (sym i.at-is) new) space);
            names =
                lodged-other (name-lodged small nodes) d (beside-swap (chain-name-beside small nodes)) x.names hash hs j used space w;
            memos =
                subst (λ (ks : List Name). Told (NameAt s ks) (memos_at l) ys) (sym e)
                (memos-kept x d hash hs j used space w x.memos);
            slots = slots-entered d (variable-chain s) hash hs j used space w x.slots;
            sums = sums-entered small d hash hs j used space w x.sums;
          }

      pub indexes-chain : Indexes s l cs ts (hs + 1) ns (chain_added s l (names_held s l ns xs) hs j xs)
      indexes-chain =
          subst (Indexes s l cs ts (hs + 1) ns)
          (added_is hash const_slot (chain_index l) (chains_at l) hs j xs (chain-lies x.small).at-is) chain-entered

  -- the name with key k: the chains held have all their names, so their hashes stay
  module _
      (k : ℕ) (used : NameKey s k) (pooled : All (Pooled s (names_held s l ns xs)) (region (chains_at l) hs xs))
      (new : ns ≤ first_where (same_name_of s k) (region (names_at l) ns xs)) (space : ns < names_per_node * l.nodes)
    where
      abbrev after : List ℕ
      after = entered (name_hash s) name_slot (name_index l) ns k xs

      new-at : ns ≤ first_where (same_name_of s k) (region (name_index l).at ns xs)
      new-at =
          subst (λ (at : ℕ). ns ≤ first_where (same_name_of s k) (region at ns xs)) (sym (name-lies x.small).at-is) new

      names_more : names_held s l (ns + 1) after ≡ names_held s l ns xs ++ (name_of s k ∷ [])
      unfolding names_held
      names_more =
          let i = (name-lies x.small).at-is in
          ap (map (name_of s))
          (ap (λ (at : ℕ). region at (ns + 1) after) (sym i)
          ∙ pool-pushed (names-alike s) x.names k (name-self s (name_of s k)) used new-at space
          ∙ ap (λ (at : ℕ). region at ns xs ++ (k ∷ [])) i)
          ∙ map-append (name_of s) (region (names_at l) ns xs) (k ∷ [])

      names-grow : Grows (names_held s l ns xs) (names_held s l (ns + 1) (entered (name_hash s) name_slot (name_index l) ns k xs))
      names-grow = record { more = name_of s k ∷ []; whole = names_more }

      chains-kept : ChainPool s l (names_held s l (ns + 1) after) hs after
      chains-kept =
          let small = x.small in
          let nodes = x.nodes in
          let d = name-lodged {s = s} small nodes in
          let w = name-word s (name_of s k) in
          let i = chain-lies small in
          let n = name-lies small in
          let at = i.at-is in
          let m = pool-length x.chains in
          let f = x.chains.fit in
          let p = lodged-other (chain-lodged small nodes) d (chain-name-beside small nodes) x.chains (name_hash s) ns k used space w in
          let keys =
          lodged-lists d (name_hash s) ns k (chain_index l).at hs xs used w (omega arith)
          ∙ region-behind (chain_index l).at hs ((name_index l).at + ns) k xs (omega arith) in
          pool-rehashed (chain_hash s (names_held s l (ns + 1) after)) p
          (λ e b.
          chain-stays s names-grow (get_or (region (chain_index l).at hs after) e 0)
          (subst (λ (ks : List ℕ). Pooled s (names_held s l ns xs) (get_or ks e 0))
          (ap (λ (a : ℕ). region a hs xs) (sym at) ∙ sym keys)
          (all-at (Pooled s (names_held s l ns xs)) (region (chains_at l) hs xs) pooled e
          (subst (λ (c : ℕ). e < c) (sym (sym (ap (λ (a : ℕ). length (region a hs xs)) at) ∙ m)) b))))

      name-entered : Indexes s l cs ts hs (ns + 1) after
      name-entered =
          let small = x.small in
          let nodes = x.nodes in
          let d = name-lodged {s = s} small nodes in
          let w = name-word s (name_of s k) in
          record {
            small = small;
            nodes = nodes;
            consts = lodged-other (const-lodged small nodes) d (const-name-beside small nodes) x.consts (name_hash s) ns k used space w;
            tokens = lodged-other (token-lodged small nodes) d (token-name-beside small nodes) x.tokens (name_hash s) ns k used space w;
            chains = chains-kept;
            names = pool-new (names-alike s) x.names k (name-self s (name_of s k)) used new-at space;
            memos = told_names names-grow (memos-kept x d (name_hash s) ns k used space w x.memos);
            slots = slots-entered d (variable-name s) (name_hash s) ns k used space w x.slots;
            sums = sums-entered small d (name_hash s) ns k used space w x.sums;
          }

      pub indexes-name : Indexes s l cs ts hs (ns + 1) (name_added s l ns k xs)
      indexes-name =
          subst (Indexes s l cs ts hs (ns + 1))
          (added_is (name_hash s) name_slot (name_index l) (names_at l) ns k xs (name-lies x.small).at-is) name-entered
