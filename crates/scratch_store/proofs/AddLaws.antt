-- An entry added to a pool: where it stands already nothing changes, and where not its key is written behind the others. There is always
-- room for it, since the keys are different numbers below the count of nodes.
use Rattle.std.proofs.Common.{◌≡◌, ℕ, ◌+◌, ◌*◌, ◌%◌, ◌<◌, ◌≤◌, Bool, true, false, eqb, List, [], ◌∷◌, ◌++◌, map, length, set, sym, refl, ap}
use Rattle.std.proofs.Common.{◌∙◌, subst, arith, length-append, length-set, eq-eqb, ne_eqb}
use mathlib.Core.List.{map-append}
use lib.ListN.{length-map}
use Rattle.expr_chains.proofs.NameLaws.{name-self}
use Rattle.lowering.proofs.CaseConsts.{const-self}
use Rattle.lowering.proofs.FirstLaws.{first-within, added_new, added-old}
use Rattle.laws.proofs.Bool.{lazy-of}
use Rattle.sheet.specs.Limits.{max_depth}
use Rattle.sheet.specs.Node.{field_c, child}
use Rattle.lowering.specs.Limits.{op_width, names_per_node}
use Rattle.lowering.specs.Pools.{Pools, Const, Name, first_where, added, const_of, same_const, const_at, push_const, pools, same_name}
use Rattle.lowering.specs.Pools.{name_at}
use Rattle.lowering.specs.Pools.{push_name, token_at, push_token, chain_at, new_chain, push_chain}
use Rattle.lowering.specs.Code.{code_words, positions, greatest}
use Rattle.lowering.specs.Flatten.{links}
use Rattle.expr_chains.specs.Steps.{chain_root, chain_steps, chain_operands, link_count}
use Rattle.expr_chains.specs.Same.{same_steps, same_links, same_root, same_nodes}
use Rattle.expr_chains.proofs.SameLaws.{steps-words}
use Rattle.expr_chains.proofs.RootLaws.{root-words}
use Rattle.expr_chains.specs.Pooled as pooled
use Rattle.expr_chains.proofs.WalkLaws.{ChainGives}
use Rattle.expr_chains.specs.Kept.{Kept}
use Rattle.expr_chains.proofs.LinkLaws.{links-most}
use Rattle.expr_chains.proofs.KeptLaws.{steps-length, chains-length, kept-const, kept-name, kept-token, chain-at, push_kept}
use Rattle.scratch_keys.specs.Keys.{name_of}
use Rattle.scratch_keys.specs.Used.{ConstKey, TokenKey, ChainKey, NameKey}
use Rattle.scratch_keys.proofs.SeekLaws.{first-map}
use Rattle.expr_model.specs.Made.{Made, made, add_const, add_name, add_token}
use Rattle.expr_model.specs.Construct.{add_chain, chain_place}
use Rattle.scratch.specs.declared.Layout.{Layout}
use Rattle.scratch.specs.declared.Index.{Index}
use Rattle.scratch_index.specs.Table.{noted_by}
use Rattle.scratch_index.specs.Consts.{const_slot, const_hash, token_hash}
use Rattle.scratch_index.specs.Names.{name_hash, name_slot}
use Rattle.scratch_index.specs.Held.{names_held}
use Rattle.scratch_index.specs.Chains.{chain_hash}
use Rattle.scratch_index.specs.Indexes.{Indexes, added_to, const_added, token_added, chain_added, name_added}
use Rattle.scratch_index.proofs.IndexesLaws.{const-lists, token-lists, chain-lists, name-lists}
use Rattle.scratch_index.proofs.IndexesLaws.{indexes-const, indexes-token, indexes-chain, indexes-name}
use Rattle.scratch_store.specs.declared.State.{State}
use Rattle.scratch.specs.Places.{Small, positions_at, residuals_at, consts_at, tokens_at, chains_at, names_at, links_at, region}
use Rattle.scratch.specs.Places.{const_index, token_index, chain_index, name_index}
use Rattle.scratch_store.specs.Distinct.{Distinct, Below, Apart}
use Rattle.scratch_store.proofs.DistinctLaws.{distinct_snoc, all_snoc, distinct-few, distinct-room, first-apart}
use Rattle.scratch.proofs.RegionLaws.{region-before, region-behind, region-push}
use Rattle.scratch_store.specs.Holds.{Keys, Counts, CodeHeld, Lists, Holds}
use Rattle.scratch_store.specs.States as states
use Rattle.scratch_store.proofs.FrameLaws.{fit_same, laid_same, keys-same, pools-same}

-- keys
module _ {at n k : ℕ} {xs : List ℕ} (h : Keys at n k xs) where
  pub keys-few : k ≤ n
  keys-few = let c = h.count in let f = distinct-few n (region at k xs) h.distinct h.below in omega arith

  module _ (v : ℕ) (l : v < n) (a : Apart v (region at k xs)) where
    keys-room : k < n
    keys-room = let c = h.count in let f = distinct-room n (region at k xs) v h.distinct h.below a l in omega arith

    keys_push : region at (k + 1) (set xs (at + k) v) ≡ region at k xs ++ (v ∷ []) → Keys at n (k + 1) (set xs (at + k) v)
    keys_push e =
        let c = h.count in
        let m = length-append (region at k xs) (v ∷ []) in
        record {
          distinct = subst Distinct (sym e) (distinct_snoc (region at k xs) v h.distinct a);
          below = subst (Below n) (sym e) (all_snoc (λ y. y < n) (region at k xs) v h.below l);
          count = ap length e ∙ m ∙ omega arith;
        }

-- an entry that is looked for among those of the keys ks
module _ {A : Type 0} (test : A → Bool) (f : ℕ → A) (v : ℕ) (ks : List ℕ) where
  found : first_where test (map f ks) < length ks → added test (f v) (map f ks) ≡ map f ks
  found i =
      added-old test (f v) (map f ks)
      (ne_eqb (first_where test (map f ks)) (length (map f ks)) (λ e. let m = length-map ks f in omega arith))

  module _ (i : length ks ≤ first_where test (map f ks)) where
    end : first_where test (map f ks) ≡ length (map f ks)
    end = let w = first-within test (map f ks) in let m = length-map ks f in omega arith

    missed : added test (f v) (map f ks) ≡ map f (ks ++ (v ∷ []))
    missed =
        added_new test (f v) (map f ks) (eq-eqb (first_where test (map f ks)) (length (map f ks)) end)
        ∙ sym (map-append f ks (v ∷ []))

    other : test (f v) ≡ true → Apart v ks
    other t = first-apart (λ (k : ℕ). test (f k)) v ks t (sym (first-map test f ks) ∙ end ∙ length-map ks f)

-- what a pool does not touch
pub record SameRest (st r : State) (a b : Made) : Type 0 where
  pub code : r.code ≡ st.code
  pub residuals : r.residuals ≡ st.residuals
  pub emitted : r.emitted ≡ st.emitted
  pub depth : r.depth ≡ st.depth
  pub deepest : r.deepest ≡ st.deepest
  pub code-made : b.code ≡ a.code
  pub residuals-made : b.pools.residuals ≡ a.pools.residuals
  pub emitted-made : b.pools.emitted ≡ a.pools.emitted
  pub depth-made : b.depth ≡ a.depth

module _ {s : List ℕ} {l : Layout} {xs : List ℕ} {st r : State} {a b : Made} (e : SameRest st r a b) (h : Holds s l xs st a) where
  counts-rest : Counts l r b
  counts-rest =
      let c = h.counts in
      record {
        code = e.code ∙ c.code ∙ sym (ap length e.code-made);
        residuals = e.residuals ∙ c.residuals ∙ sym (ap length e.residuals-made);
        emitted = e.emitted ∙ c.emitted ∙ sym e.emitted-made;
        depth = e.depth ∙ c.depth ∙ sym e.depth-made;
        deepest = e.deepest ∙ c.deepest ∙ sym (ap greatest e.code-made);
        standing = let x = c.standing in let y = e.code in let z = e.emitted in omega arith;
        kept = let x = c.kept in let y = e.residuals in let z = e.emitted in omega arith;
        low = let x = c.low in let y = e.depth in let z = e.emitted in omega arith;
        within = let x = c.within in let z = e.emitted in omega arith;
      }

  code-rest : (i v : ℕ) → consts_at l ≤ i → CodeHeld l (set xs i v) r b
  code-rest i v g =
      let c = h.counts in
      let c1 = c.standing in
      let c2 = c.within in
      let c3 = c.kept in
      record {
        code =
            ap (λ (m : ℕ). region 0 (op_width * m) (set xs i v)) e.code
            ∙ region-behind 0 (op_width * st.code) i v xs (omega arith)
            ∙ h.emitted.code
            ∙ sym (ap code_words e.code-made);
        positions =
            ap (λ (m : ℕ). region (positions_at l) m (set xs i v)) e.code
            ∙ region-behind (positions_at l) st.code i v xs (omega arith)
            ∙ h.emitted.positions
            ∙ sym (ap positions e.code-made);
        residuals =
            ap (λ (m : ℕ). region (residuals_at l) m (set xs i v)) e.residuals
            ∙ region-behind (residuals_at l) st.residuals i v xs (omega arith)
            ∙ h.emitted.residuals
            ∙ sym e.residuals-made;
      }

-- other words with the same lists
module _ {s : List ℕ} {l : Layout} {zs : List ℕ} {st : State} {a : Made} where
  pub lists-same :
      (ys : List ℕ) → length ys ≡ length zs → ((at k : ℕ) → at + k ≤ links_at l → region at k ys ≡ region at k zs) → Lists s l zs st a
      → Lists s l ys st a
  lists-same ys e same h =
      let c = h.counts in
      let k = h.pooled in
      let c1 = c.standing in
      let c2 = c.within in
      let c3 = c.kept in
      record {
        fit = fit_same e h.fit;
        counts = c;
        laid = h.laid;
        emitted = record {
          code = same 0 (op_width * st.code) (omega arith) ∙ h.emitted.code;
          positions = same (positions_at l) st.code (omega arith) ∙ h.emitted.positions;
          residuals = same (residuals_at l) st.residuals (omega arith) ∙ h.emitted.residuals;
        };
        pooled =
            pools-same
            (record {
              consts = same (consts_at l) st.consts (let few = keys-few k.const_keys in omega arith);
              tokens = same (tokens_at l) st.tokens (let few = keys-few k.token_keys in omega arith);
              chains = same (chains_at l) st.chains (let few = keys-few k.chain_keys in omega arith);
              names = same (names_at l) st.names (let few = keys-few k.name_keys in omega arith);
            })
            (record { consts = refl; tokens = refl; names = refl; chains = λ ks q. q })
            k;
      }

-- with the indexes, and without them
pub lists_of : {s : List ℕ} {l : Layout} {xs : List ℕ} {st : State} {a : Made} → Holds s l xs st a → Lists s l xs st a
lists_of h = record { fit = h.fit; counts = h.counts; laid = h.laid; emitted = h.emitted; pooled = h.pooled }

pub holds_by :
    {s : List ℕ} {l : Layout} {xs : List ℕ} {st : State} {a : Made} → Lists s l xs st a
    → Indexes s l st.consts st.tokens st.chains st.names xs → Holds s l xs st a
holds_by h x = record { fit = h.fit; counts = h.counts; laid = h.laid; emitted = h.emitted; pooled = h.pooled; index = x }

pub small_of : {s : List ℕ} {l : Layout} {xs : List ℕ} {st : State} {a : Made} → Holds s l xs st a → Small l
small_of h = record { few = h.fit.few; small = h.fit.small }

added-length : (ix : Index) (at slot h n j : ℕ) (xs : List ℕ) → length (added_to ix at slot h n j xs) ≡ length (set xs (at + n) j)
unfolding noted_by
added-length ix at slot h n j xs = simp length-set

one_more : (n m : ℕ) → n < m → m ≤ 4294967295 → (n + 1) % 4294967296 ≡ n + 1
one_more n m h k = omega arith

-- a const
module _ {s : List ℕ} {l : Layout} {xs : List ℕ} {st : State} {a : Made} (v : ℕ) (h : Holds s l xs st a) where
  pub const-place : first_where (same_const s (const_of s v)) (map (const_of s) (region (consts_at l) st.consts xs))
      ≡ const_at s (const_of s v) a.pools
  unfolding const_at
  const-place = ap (first_where (same_const s (const_of s v))) (sym h.pooled.consts)

  pub const-old : first_where (same_const s (const_of s v)) (map (const_of s) (region (consts_at l) st.consts xs)) < st.consts
      → Holds s l xs st (add_const s (const_of s v) a)
  unfolding add_const push_const
  const-old i =
      let n = h.pooled.const_keys.count in
      let e : added (same_const s (const_of s v)) (const_of s v) a.pools.consts ≡ a.pools.consts =
      subst (λ (c : List Const). added (same_const s (const_of s v)) (const_of s v) c ≡ c) (sym h.pooled.consts)
      (found (same_const s (const_of s v)) (const_of s) v (region (consts_at l) st.consts xs) (omega arith)) in
      subst (Holds s l xs st) (sym (ap (λ (c : List Const).
      made a.code
      (pools c a.pools.names a.pools.tokens a.pools.residuals a.pools.chains a.pools.steps a.pools.emitted
      a.pools.defeated)
      a.depth) e)) h

  module _ (g : v < l.nodes)
      (j : st.consts ≤ first_where (same_const s (const_of s v)) (map (const_of s) (region (consts_at l) st.consts xs))) where
    const-listed : Lists s l (set xs (consts_at l + st.consts) v) (states.with_const st) (add_const s (const_of s v) a)
    unfolding add_const push_const
    const-listed =
        let k = h.pooled in
        let i = consts_at l + st.consts in
        let space = h.fit.space in
        let small = h.fit.small in
        let n = k.const_keys.count in
        let far = other (same_const s (const_of s v)) (const_of s) v (region (consts_at l) st.consts xs) (omega arith)
        (const-self s (const_of s v)) in
        let room = keys-room k.const_keys v g far in
        let count : (st.consts + 1) % 4294967296 ≡ st.consts + 1 = omega arith in
        let end = region-push (consts_at l) st.consts i v xs refl (omega arith) in
        let whole = ap (λ (m : ℕ). region (consts_at l) m (set xs i v)) count ∙ end in
        let new : added (same_const s (const_of s v)) (const_of s v) a.pools.consts
        ≡ map (const_of s) (region (consts_at l) st.consts xs ++ (v ∷ [])) =
        ap (added (same_const s (const_of s v)) (const_of s v)) k.consts
        ∙ missed (same_const s (const_of s v)) (const_of s) v (region (consts_at l) st.consts xs) (omega arith) in
        let token-same = region-before (tokens_at l) st.tokens i v xs (omega arith) in
        let chain_same = region-before (chains_at l) st.chains i v xs (omega arith) in
        let name-same = region-before (names_at l) st.names i v xs (omega arith) in
        let rest : SameRest st (states.with_const st) a (add_const s (const_of s v) a) =
        record {
          code = refl;
          residuals = refl;
          emitted = refl;
          depth = refl;
          deepest = refl;
          code-made = refl;
          residuals-made = refl;
          emitted-made = refl;
          depth-made = refl;
        } in
        record {
          fit = fit_same (length-set xs i v) h.fit;
          counts = counts-rest rest h;
          laid = laid_same (states.with_const st) (add_const s (const_of s v) a) refl refl (omega arith) refl h.laid;
          emitted = code-rest rest h i v (omega arith);
          pooled = record {
            const_keys = subst (λ (m : ℕ). Keys (consts_at l) l.nodes m (set xs i v)) (sym count) (keys_push k.const_keys v g far end);
            token_keys = keys-same (set xs i v) token-same k.token_keys;
            chain_keys = keys-same (set xs i v) chain_same k.chain_keys;
            name_keys = keys-same (set xs i v) name-same k.name_keys;
            consts = new ∙ ap (map (const_of s)) (sym whole);
            tokens = k.tokens ∙ ap (map (field_c s)) (sym token-same);
            names = k.names ∙ ap (map (name_of s)) (sym name-same);
            chains =
                subst (Kept s (add_const s (const_of s v) a).pools) (sym chain_same) (kept-const s (const_of s v) a.pools k.chains);
          };
        }

-- with its link and its head
module _ {s : List ℕ} {l : Layout} {xs : List ℕ} {st : State} {a : Made} (v : ℕ) (h : Holds s l xs st a) (u : ConstKey s v) where
  pub const-new :
      st.consts ≤ first_where (same_const s (const_of s v)) (map (const_of s) (region (consts_at l) st.consts xs))
      → Holds s l (const_added s l st.consts v xs) (states.with_const st) (add_const s (const_of s v) a)
  const-new j =
      let ks = region (consts_at l) st.consts xs in
      let key = h.pooled.const_keys in
      let n = key.count in
      let nodes = h.fit.nodes in
      let few = h.fit.small in
      let g : v < l.nodes = let b = u.below in omega arith in
      let far = other (same_const s (const_of s v)) (const_of s) v ks (omega arith) (const-self s (const_of s v)) in
      let room = keys-room key v g far in
      let count = one_more st.consts l.nodes room (omega arith) in
      let none = subst (λ (m : ℕ). st.consts ≤ m) (first-map (same_const s (const_of s v)) (const_of s) ks) j in
      holds_by
      (lists-same (const_added s l st.consts v xs)
      (added-length (const_index l) (consts_at l) (const_slot v) (const_hash s v) st.consts v xs)
      (λ at k q. const-lists (small_of h) nodes st.consts v at k xs q u) (const-listed v h g j))
      (subst (λ (m : ℕ). Indexes s l m st.tokens st.chains st.names (const_added s l st.consts v xs)) (sym count)
      (indexes-const h.index v u none room))

-- a token
module _ {s : List ℕ} {l : Layout} {xs : List ℕ} {st : State} {a : Made} (v : ℕ) (h : Holds s l xs st a) where
  pub token-place : first_where (eqb (field_c s v)) (map (field_c s) (region (tokens_at l) st.tokens xs)) ≡ token_at (field_c s v) a.pools
  unfolding token_at
  token-place = ap (first_where (eqb (field_c s v))) (sym h.pooled.tokens)

  pub token-old : first_where (eqb (field_c s v)) (map (field_c s) (region (tokens_at l) st.tokens xs)) < st.tokens
      → Holds s l xs st (add_token (field_c s v) a)
  unfolding add_token push_token
  token-old i =
      let n = h.pooled.token_keys.count in
      let e : added (eqb (field_c s v)) (field_c s v) a.pools.tokens ≡ a.pools.tokens =
      subst (λ (c : List ℕ). added (eqb (field_c s v)) (field_c s v) c ≡ c) (sym h.pooled.tokens)
      (found (eqb (field_c s v)) (field_c s) v (region (tokens_at l) st.tokens xs) (omega arith)) in
      subst (Holds s l xs st) (sym (ap (λ (c : List ℕ).
      made a.code
      (pools a.pools.consts a.pools.names c a.pools.residuals a.pools.chains a.pools.steps a.pools.emitted
      a.pools.defeated)
      a.depth) e)) h

  module _ (g : v < l.nodes) (j : st.tokens ≤ first_where (eqb (field_c s v)) (map (field_c s) (region (tokens_at l) st.tokens xs))) where
    token-listed : Lists s l (set xs (tokens_at l + st.tokens) v) (states.with_token st) (add_token (field_c s v) a)
    unfolding add_token push_token
    token-listed =
        let k = h.pooled in
        let i = tokens_at l + st.tokens in
        let space = h.fit.space in
        let small = h.fit.small in
        let n = k.token_keys.count in
        let far = other (eqb (field_c s v)) (field_c s) v (region (tokens_at l) st.tokens xs) (omega arith)
        (eq-eqb (field_c s v) (field_c s v) refl) in
        let room = keys-room k.token_keys v g far in
        let count : (st.tokens + 1) % 4294967296 ≡ st.tokens + 1 = omega arith in
        let end = region-push (tokens_at l) st.tokens i v xs refl (omega arith) in
        let whole = ap (λ (m : ℕ). region (tokens_at l) m (set xs i v)) count ∙ end in
        let new : added (eqb (field_c s v)) (field_c s v) a.pools.tokens
        ≡ map (field_c s) (region (tokens_at l) st.tokens xs ++ (v ∷ [])) =
        ap (added (eqb (field_c s v)) (field_c s v)) k.tokens
        ∙ missed (eqb (field_c s v)) (field_c s) v (region (tokens_at l) st.tokens xs) (omega arith) in
        let const-same = region-behind (consts_at l) st.consts i v xs (let few = keys-few k.const_keys in omega arith) in
        let chain_same = region-before (chains_at l) st.chains i v xs (omega arith) in
        let name-same = region-before (names_at l) st.names i v xs (omega arith) in
        let rest : SameRest st (states.with_token st) a (add_token (field_c s v) a) =
        record {
          code = refl;
          residuals = refl;
          emitted = refl;
          depth = refl;
          deepest = refl;
          code-made = refl;
          residuals-made = refl;
          emitted-made = refl;
          depth-made = refl;
        } in
        record {
          fit = fit_same (length-set xs i v) h.fit;
          counts = counts-rest rest h;
          laid = laid_same (states.with_token st) (add_token (field_c s v) a) refl refl (omega arith) refl h.laid;
          emitted = code-rest rest h i v (omega arith);
          pooled = record {
            const_keys = keys-same (set xs i v) const-same k.const_keys;
            token_keys = subst (λ (m : ℕ). Keys (tokens_at l) l.nodes m (set xs i v)) (sym count) (keys_push k.token_keys v g far end);
            chain_keys = keys-same (set xs i v) chain_same k.chain_keys;
            name_keys = keys-same (set xs i v) name-same k.name_keys;
            consts = k.consts ∙ ap (map (const_of s)) (sym const-same);
            tokens = new ∙ ap (map (field_c s)) (sym whole);
            names = k.names ∙ ap (map (name_of s)) (sym name-same);
            chains = subst (Kept s (add_token (field_c s v) a).pools) (sym chain_same) (kept-token s (field_c s v) a.pools k.chains);
          };
        }

-- with its link and its head
module _ {s : List ℕ} {l : Layout} {xs : List ℕ} {st : State} {a : Made} (v : ℕ) (h : Holds s l xs st a) (u : TokenKey s v) where
  pub token-new :
      st.tokens ≤ first_where (eqb (field_c s v)) (map (field_c s) (region (tokens_at l) st.tokens xs))
      → Holds s l (token_added s l st.tokens v xs) (states.with_token st) (add_token (field_c s v) a)
  token-new j =
      let ks = region (tokens_at l) st.tokens xs in
      let key = h.pooled.token_keys in
      let n = key.count in
      let nodes = h.fit.nodes in
      let few = h.fit.small in
      let g : v < l.nodes = let b = u.below in omega arith in
      let far = other (eqb (field_c s v)) (field_c s) v ks (omega arith) (eq-eqb (field_c s v) (field_c s v) refl) in
      let room = keys-room key v g far in
      let count = one_more st.tokens l.nodes room (omega arith) in
      let none = subst (λ (m : ℕ). st.tokens ≤ m) (first-map (eqb (field_c s v)) (field_c s) ks) j in
      holds_by
      (lists-same (token_added s l st.tokens v xs)
      (added-length (token_index l) (tokens_at l) (const_slot v) (token_hash s v) st.tokens v xs)
      (λ at k q. token-lists (small_of h) nodes st.tokens v at k xs q u) (token-listed v h g j))
      (subst (λ (m : ℕ). Indexes s l st.consts m st.chains st.names (token_added s l st.tokens v xs)) (sym count)
      (indexes-token h.index v u none room))

-- a name
module _ {s : List ℕ} {l : Layout} {xs : List ℕ} {st : State} {a : Made} (v : ℕ) (h : Holds s l xs st a) where
  pub name-place : first_where (same_name s (name_of s v)) (map (name_of s) (region (names_at l) st.names xs))
      ≡ name_at s (name_of s v) a.pools
  unfolding name_at
  name-place = ap (first_where (same_name s (name_of s v))) (sym h.pooled.names)

  pub name-old : first_where (same_name s (name_of s v)) (map (name_of s) (region (names_at l) st.names xs)) < st.names
      → Holds s l xs st (add_name s (name_of s v) a)
  unfolding add_name push_name
  name-old i =
      let n = h.pooled.name_keys.count in
      let e : added (same_name s (name_of s v)) (name_of s v) a.pools.names ≡ a.pools.names =
      subst (λ (c : List Name). added (same_name s (name_of s v)) (name_of s v) c ≡ c) (sym h.pooled.names)
      (found (same_name s (name_of s v)) (name_of s) v (region (names_at l) st.names xs) (omega arith)) in
      subst (Holds s l xs st) (sym (ap (λ (c : List Name).
      made a.code
      (pools a.pools.consts c a.pools.tokens a.pools.residuals a.pools.chains a.pools.steps a.pools.emitted
      a.pools.defeated)
      a.depth) e)) h

  module _ (g : v < names_per_node * l.nodes)
      (j : st.names ≤ first_where (same_name s (name_of s v)) (map (name_of s) (region (names_at l) st.names xs))) where
    name-listed : Lists s l (set xs (names_at l + st.names) v) (states.with_name st) (add_name s (name_of s v) a)
    unfolding add_name push_name
    name-listed =
        let k = h.pooled in
        let i = names_at l + st.names in
        let space = h.fit.space in
        let small = h.fit.small in
        let n = k.name_keys.count in
        let far =
        other (same_name s (name_of s v)) (name_of s) v (region (names_at l) st.names xs) (omega arith) (name-self s (name_of s v)) in
        let room = keys-room k.name_keys v g far in
        let count : (st.names + 1) % 4294967296 ≡ st.names + 1 = omega arith in
        let end = region-push (names_at l) st.names i v xs refl (omega arith) in
        let whole = ap (λ (m : ℕ). region (names_at l) m (set xs i v)) count ∙ end in
        let new : added (same_name s (name_of s v)) (name_of s v) a.pools.names
        ≡ map (name_of s) (region (names_at l) st.names xs ++ (v ∷ [])) =
        ap (added (same_name s (name_of s v)) (name_of s v)) k.names
        ∙ missed (same_name s (name_of s v)) (name_of s) v (region (names_at l) st.names xs) (omega arith) in
        let const-same = region-behind (consts_at l) st.consts i v xs (let few = keys-few k.const_keys in omega arith) in
        let token-same = region-behind (tokens_at l) st.tokens i v xs (let few = keys-few k.token_keys in omega arith) in
        let chain_same = region-behind (chains_at l) st.chains i v xs (let few = keys-few k.chain_keys in omega arith) in
        let rest : SameRest st (states.with_name st) a (add_name s (name_of s v) a) =
        record {
          code = refl;
          residuals = refl;
          emitted = refl;
          depth = refl;
          deepest = refl;
          code-made = refl;
          residuals-made = refl;
          emitted-made = refl;
          depth-made = refl;
        } in
        record {
          fit = fit_same (length-set xs i v) h.fit;
          counts = counts-rest rest h;
          laid = laid_same (states.with_name st) (add_name s (name_of s v) a) refl refl (omega arith) refl h.laid;
          emitted = code-rest rest h i v (omega arith);
          pooled = record {
            const_keys = keys-same (set xs i v) const-same k.const_keys;
            token_keys = keys-same (set xs i v) token-same k.token_keys;
            chain_keys = keys-same (set xs i v) chain_same k.chain_keys;
            name_keys =
                subst (λ (m : ℕ). Keys (names_at l) (names_per_node * l.nodes) m (set xs i v)) (sym count)
                (keys_push k.name_keys v g far end);
            consts = k.consts ∙ ap (map (const_of s)) (sym const-same);
            tokens = k.tokens ∙ ap (map (field_c s)) (sym token-same);
            names = new ∙ ap (map (name_of s)) (sym whole);
            chains = subst (Kept s (add_name s (name_of s v) a).pools) (sym chain_same) (kept-name s (name_of s v) a.pools k.chains);
          };
        }

-- with its link and its head
module _ {s : List ℕ} {l : Layout} {xs : List ℕ} {st : State} {a : Made} (v : ℕ) (h : Holds s l xs st a) (u : NameKey s v) where
  -- the chains held have their names
  chains-named : pooled.All (pooled.Pooled s (names_held s l st.names xs)) (region (chains_at l) st.chains xs)
  unfolding names_held
  chains-named =
      subst (λ (ns : List Name). pooled.All (pooled.Pooled s ns) (region (chains_at l) st.chains xs)) h.pooled.names
      h.pooled.chains.pooled

  pub name_new :
      st.names ≤ first_where (same_name s (name_of s v)) (map (name_of s) (region (names_at l) st.names xs))
      → Holds s l (name_added s l st.names v xs) (states.with_name st) (add_name s (name_of s v) a)
  name_new j =
      let ks = region (names_at l) st.names xs in
      let key = h.pooled.name_keys in
      let n = key.count in
      let nodes = h.fit.nodes in
      let few = h.fit.small in
      let g : v < names_per_node * l.nodes = let b = u.below in omega arith in
      let far = other (same_name s (name_of s v)) (name_of s) v ks (omega arith) (name-self s (name_of s v)) in
      let room = keys-room key v g far in
      let count = one_more st.names (names_per_node * l.nodes) room (omega arith) in
      let none = subst (λ (m : ℕ). st.names ≤ m) (first-map (same_name s (name_of s v)) (name_of s) ks) j in
      holds_by
      (lists-same (name_added s l st.names v xs) (added-length (name_index l) (names_at l) (name_slot v) (name_hash s v) st.names v xs)
      (λ at k q. name-lists (small_of h) nodes st.names v at k xs q u) (name-listed v h g j))
      (subst (λ (m : ℕ). Indexes s l st.consts st.tokens st.chains m (name_added s l st.names v xs)) (sym count)
      (indexes-name h.index v u chains-named none room))

-- a chain: its nodes are the same as themselves, since its names are pooled
nodes-self : (s : List ℕ) (ns : List Name) (j : ℕ) → pooled.Pooled s ns j → same_nodes s j j ≡ true
unfolding same_nodes same_links
nodes-self s ns j h =
    lazy-of (same_steps s (links max_depth s j) (links max_depth s j)) (same_root s (child j) (child j))
    (steps-words s ns 0 (links max_depth s j) (links max_depth s j) h.steps h.steps refl)
    (root-words s ns (child j) (child j) h.root h.root refl)

-- as many chains as are counted
pub chains-count :
    {s : List ℕ} {l : Layout} {xs : List ℕ} {st : State} {a : Made} → Holds s l xs st a → length a.pools.chains ≡ st.chains
chains-count {s} {l} {xs} {st} {a} h =
    ap length h.pooled.chains.chains
    ∙ chains-length s a.pools.names 0 (region (chains_at l) st.chains xs)
    ∙ h.pooled.chain_keys.count

module _ {s : List ℕ} {l : Layout} {xs : List ℕ} {st : State} {a : Made} (v : ℕ) (h : Holds s l xs st a)
    (w : pooled.Pooled s a.pools.names v) where
  gives : ChainGives s a.pools.names v (chain_root s a.pools.names v) (chain_steps s a.pools.names v) (chain_operands s v)
  gives = record { root = refl; steps = refl; operands = refl; pooled = w }

  pub chain-place : first_where (same_nodes s v) (region (chains_at l) st.chains xs) ≡ chain_place s v a
  unfolding chain_place
  chain-place =
      sym (chain-at s a.pools h.pooled.chains v (chain_root s a.pools.names v) (chain_steps s a.pools.names v)
      (chain_operands s v) gives)

  at-is : chain_at (chain_root s a.pools.names v) (chain_steps s a.pools.names v) (chain_operands s v) a.pools
      ≡ first_where (same_nodes s v) (region (chains_at l) st.chains xs)
  at-is =
      chain-at s a.pools h.pooled.chains v (chain_root s a.pools.names v) (chain_steps s a.pools.names v) (chain_operands s v)
      gives

  chain_same : eqb (chain_at (chain_root s a.pools.names v) (chain_steps s a.pools.names v) (chain_operands s v) a.pools)
      (length a.pools.chains)
      ≡ false → add_chain s v a ≡ a
  unfolding add_chain push_chain
  chain_same e =
      let p : push_chain (chain_root s a.pools.names v) (chain_steps s a.pools.names v) (chain_operands s v) a.pools ≡ a.pools =
      rw (e, push_chain) in
      ap (λ (q : Pools). made a.code q a.depth) p

  pub chain-old : first_where (same_nodes s v) (region (chains_at l) st.chains xs) < st.chains → Holds s l xs st (add_chain s v a)
  chain-old i =
      let e = at-is in
      let m = chains-count h in
      subst (Holds s l xs st)
      (sym (chain_same (ne_eqb (chain_at (chain_root s a.pools.names v) (chain_steps s a.pools.names v) (chain_operands s v) a.pools)
      (length a.pools.chains) (λ q. omega arith)))) h

  -- where it is new
  module _ (g : v < l.nodes) (j : st.chains ≤ first_where (same_nodes s v) (region (chains_at l) st.chains xs)) where
    at-end : first_where (same_nodes s v) (region (chains_at l) st.chains xs) ≡ length (region (chains_at l) st.chains xs)
    at-end =
        let n = h.pooled.chain_keys.count in
        let f = first-within (same_nodes s v) (region (chains_at l) st.chains xs) in
        omega arith

    pushed-new : push_chain (chain_root s a.pools.names v) (chain_steps s a.pools.names v) (chain_operands s v) a.pools
        ≡ new_chain (chain_root s a.pools.names v) (chain_steps s a.pools.names v) (chain_operands s v) a.pools
    unfolding push_chain
    pushed-new =
        let e = at-is in
        let m = chains-count h in
        let z = at-end in
        let n = h.pooled.chain_keys.count in
        let t : eqb (chain_at (chain_root s a.pools.names v) (chain_steps s a.pools.names v) (chain_operands s v) a.pools)
        (length a.pools.chains) ≡ true =
        eq-eqb (chain_at (chain_root s a.pools.names v) (chain_steps s a.pools.names v) (chain_operands s v) a.pools)
        (length a.pools.chains) (omega arith) in
        rw (t, push_chain)

    new-kept : Kept s (new_chain (chain_root s a.pools.names v) (chain_steps s a.pools.names v) (chain_operands s v) a.pools)
        (region (chains_at l) st.chains xs ++ (v ∷ []))
    new-kept =
        let ks = region (chains_at l) st.chains xs in
        let t = eq-eqb (first_where (same_nodes s v) ks) (length ks) at-end in
        rw (sym pushed-new, sym (added_new (same_nodes s v) v ks t))
        (push_kept s a.pools h.pooled.chains v (chain_root s a.pools.names v) (chain_steps s a.pools.names v)
        (chain_operands s v) gives)

    chain-listed : Lists s l (set xs (chains_at l + st.chains) v) (states.with_chain st (link_count s v))
        (made a.code (new_chain (chain_root s a.pools.names v) (chain_steps s a.pools.names v) (chain_operands s v) a.pools)
        a.depth)
    unfolding new_chain
    chain-listed =
        let k = h.pooled in
        let i = chains_at l + st.chains in
        let space = h.fit.space in
        let small = h.fit.small in
        let b = made a.code
        (new_chain (chain_root s a.pools.names v) (chain_steps s a.pools.names v) (chain_operands s v) a.pools) a.depth in
        let far = first-apart (same_nodes s v) v (region (chains_at l) st.chains xs) (nodes-self s a.pools.names v w) at-end in
        let room = keys-room k.chain_keys v g far in
        let count : (st.chains + 1) % 4294967296 ≡ st.chains + 1 = omega arith in
        let end = region-push (chains_at l) st.chains i v xs refl (omega arith) in
        let whole = ap (λ (m : ℕ). region (chains_at l) m (set xs i v)) count ∙ end in
        let const-same = region-behind (consts_at l) st.consts i v xs (let few = keys-few k.const_keys in omega arith) in
        let token-same = region-behind (tokens_at l) st.tokens i v xs (let few = keys-few k.token_keys in omega arith) in
        let name-same = region-before (names_at l) st.names i v xs (omega arith) in
        let links = steps-length s a.pools.names v in
        let more = length-append a.pools.steps (chain_steps s a.pools.names v) in
        let most = links-most s v in
        let laid = h.laid in
        let few = laid.few in
        let steps : (st.steps + link_count s v) % 4294967296 ≡ length (a.pools.steps ++ chain_steps s a.pools.names v) =
        let e = laid.steps in omega arith in
        let rest : SameRest st (states.with_chain st (link_count s v)) a b =
        record {
          code = refl;
          residuals = refl;
          emitted = refl;
          depth = refl;
          deepest = refl;
          code-made = refl;
          residuals-made = refl;
          emitted-made = refl;
          depth-made = refl;
        } in
        record {
          fit = fit_same (length-set xs i v) h.fit;
          counts = counts-rest rest h;
          laid = record { layout = laid.layout; steps = steps; few = let z = laid.steps in omega arith };
          emitted = code-rest rest h i v (omega arith);
          pooled = record {
            const_keys = keys-same (set xs i v) const-same k.const_keys;
            token_keys = keys-same (set xs i v) token-same k.token_keys;
            chain_keys = subst (λ (m : ℕ). Keys (chains_at l) l.nodes m (set xs i v)) (sym count) (keys_push k.chain_keys v g far end);
            name_keys = keys-same (set xs i v) name-same k.name_keys;
            consts = k.consts ∙ ap (map (const_of s)) (sym const-same);
            tokens = k.tokens ∙ ap (map (field_c s)) (sym token-same);
            names = k.names ∙ ap (map (name_of s)) (sym name-same);
            chains = subst (Kept s b.pools) (sym whole) new-kept;
          };
        }

    -- with its link and its head
    pub chain-new :
        ChainKey s v
        → Holds s l (chain_added s l (names_held s l st.names xs) st.chains v xs) (states.with_chain st (link_count s v)) (add_chain s v a)
    unfolding add_chain
    chain-new u =
        let key = h.pooled.chain_keys in
        let self = nodes-self s a.pools.names v w in
        let far = first-apart (same_nodes s v) v (region (chains_at l) st.chains xs) self at-end in
        let room = keys-room key v g far in
        let few = h.fit.small in
        let nodes = h.fit.nodes in
        let names = names_held s l st.names xs in
        let ys = chain_added s l names st.chains v xs in
        let count = one_more st.chains l.nodes room (omega arith) in
        let listed =
        lists-same ys (added-length (chain_index l) (chains_at l) (const_slot v) (chain_hash s names v) st.chains v xs)
        (λ at k q. chain-lists (small_of h) nodes st.chains v at k xs q names u) chain-listed in
        subst (λ (q : Pools). Holds s l ys (states.with_chain st (link_count s v)) (made a.code q a.depth)) (sym pushed-new)
        (holds_by listed
        (subst (λ (m : ℕ). Indexes s l st.consts st.tokens m st.names ys) (sym count) (indexes-chain h.index v self u j room)))
