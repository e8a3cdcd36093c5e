-- The first part of the pass: each Variable gets the rank of its name, and a new name goes behind the others.
use Rattle.std.proofs.Common.{◌≡◌, ℕ, ◌+◌, ◌%◌, ◌<◌, ◌≤◌, List, length, get_or, set, sym, ap, ◌∙◌, subst, arith, length-set}
use Rattle.std.proofs.Common.{get_or-set_other, get_or-set_same}
use Rattle.std.specs.Prelude.{Option, Some}
use native.Mathlib.Decide.{dec_lt}
use Rattle.sheet.specs.Sections.{node_count}
use Rattle.sheet.specs.Node.{kind, field_a}
use Rattle.sheet.specs.Text.{text}
use Rattle.lowering.specs.Kinds.{variable_kind}
use Rattle.lowering.specs.Pools.{first_where}
use Rattle.scratch.specs.declared.Layout.{Layout}
use Rattle.scratch.specs.declared.Index.{Index}
use Rattle.scratch.specs.Places.{Small, tokens_at, chains_at, names_at, links_at, sums_from, index_end, name_index, cleared_index, region}
use Rattle.scratch.proofs.PlaceLaws.{name-lies}
use Rattle.scratch_index.specs.Table.{head_at, link_at, tag_of, link_of, noted_by}
use Rattle.scratch_folds.specs.Hash.{bytes_hash}
use Rattle.scratch_folds.specs.Sums.{Sums, BySums}
use Rattle.scratch_folds.proofs.SumsLaws.{by-at}
use Rattle.scratch_index.specs.Consts.{const_slot}
use Rattle.scratch_index.specs.Lookup.{Finds, Seeks}
use Rattle.scratch_index.proofs.LookupLaws.{finds-at}
use Rattle.scratch_index.proofs.PoolLaws.{entered, pool-new}
use Rattle.scratch_index.proofs.BesideLaws.{region-beside, pool-beside}
use Rattle.scratch_index.proofs.LodgeLaws.{Lodged, link-place, head-place}
use Rattle.scratch_index.proofs.LocalLaws.{sums-before, sums-entered}
use Rattle.scratch_index.proofs.StartLaws.{start-empty, start-sums}
use Rattle.scratch_locals.specs.Pass.{has_text, same_text, text_hash, VariableKey, TextPool, rank_at, key_at, answer_at, Ranked, Met, Meets}
use Rattle.scratch_locals.proofs.TextLaws.{text-word, text-self, texts-alike, text-lodged, outside_low}
use Rattle.scratch_locals.proofs.TextLaws.{text-first, text-found, text-rank, text-sought}

-- no node is met yet
pub met-starts :
    (s : List ℕ) (l : Layout) (xs : List ℕ) → Small l → l.nodes ≡ node_count s → index_end l ≤ length xs → Sums s (sums_from l) xs
    → Met s l 0 0 (cleared_index l xs)
met-starts s l xs small nodes room kept = record {
  small = small;
  nodes = nodes;
  pool = start-empty s l small nodes xs room (same_text s) (text_hash s) (text-lodged small nodes);
  sums = start-sums s l small nodes xs room kept;
  few = omega arith;
  ranks = λ i b k. absurd (omega arith);
  zeros = λ r b. absurd (omega arith);
}

-- words before the links, where an entry is added
entered-low :
    {l : Layout} {Used : ℕ → Type 0} {slot : ℕ → ℕ} {ix : Index} {cap : ℕ} → Lodged l Used slot ix cap → (hash : ℕ → ℕ) (n j : ℕ)
    (xs : List ℕ) → Used j → hash j < 4294967296 → (i : ℕ) → i < links_at l
    → get_or (entered hash slot ix n j xs) i 0 ≡ get_or (set xs (ix.at + n) j) i 0
unfolding noted_by
entered-low {slot = slot} {ix = ix} d hash n j xs u w i b =
    let p = (link-place d j u).0 in
    let q = (head-place d (hash j) w).0 in
    let zs = set xs (ix.at + n) j in
    let v = link_of (get_or zs (head_at ix (hash j)) 0 % 524288) (tag_of (hash j)) in
    get_or-set_other (set zs (link_at ix (slot j)) v) (head_at ix (hash j)) i ((n + 1) % 4294967296) 0 (λ z. omega arith)
    ∙ get_or-set_other zs (link_at ix (slot j)) i v 0 (λ z. omega arith)

-- rank and name of a Variable stay where their words do
pub ranked-kept :
    {s : List ℕ} {l : Layout} {n : ℕ} {xs : List ℕ} {i : ℕ} (m : ℕ) (ys : List ℕ) → n ≤ m → rank_at l ys i ≡ rank_at l xs i
    → ((r : ℕ) → r < n → key_at l ys r ≡ key_at l xs r) → Ranked s l n xs i → Ranked s l m ys i
ranked-kept {s} {l} {n} {xs} {i} m ys h e k q = record {
  below = let b = q.below in omega arith;
  texts =
      ap (λ (r : ℕ). text s (field_a s (key_at l ys r))) e
      ∙ ap (λ (v : ℕ). text s (field_a s v)) (k (rank_at l xs i) q.below)
      ∙ q.texts;
}

module _ {s : List ℕ} {l : Layout} {j : ℕ} where
  -- the rank of each of the first j + 1 nodes
  ranks_by :
      {m : ℕ} {ys : List ℕ} → ((i : ℕ) → i < j → kind s i ≡ variable_kind → Ranked s l m ys i)
      → (kind s j ≡ variable_kind → Ranked s l m ys j) → (i : ℕ) → i < j + 1 → kind s i ≡ variable_kind → Ranked s l m ys i
  ranks_by {m} {ys} old new i b k = by (dec_lt i j)
    where
      by : Dec (i < j) → Ranked s l m ys i
      by (yes d) = old i d k
      by (no d) =
          let z : j ≡ i = omega arith in
          subst (Ranked s l m ys) z (new (ap (kind s) z ∙ k))

  -- node j is no Variable
  pub meets-other : {n : ℕ} {xs : List ℕ} {k : ℕ} → k ≡ kind s j → (k ≡ variable_kind → ⊥) → Meets s l j n xs xs n
  meets-other e ne = record {
    met = λ b h. record {
      small = h.small;
      nodes = h.nodes;
      pool = h.pool;
      sums = h.sums;
      few = let f = h.few in omega arith;
      ranks = ranks_by h.ranks (λ v. absurd (ne (e ∙ v)));
      zeros = h.zeros;
    };
  }

  -- Variable j, whose name has rank r
  module _
      {n t h r : ℕ} {xs : List ℕ} (variable : kind s j ≡ variable_kind) (t-is : t ≡ field_a s j) (hashed : h ≡ bytes_hash (text s t))
      (f : Finds (has_text s t) (text_hash s) const_slot (name_index l) n h xs r)
    where
      module _ (b : j < l.nodes) (m : Met s l j n xs) where
        -- the words with its rank
        abbrev ranked : List ℕ
        ranked = set xs (chains_at l + j) r

        inside : chains_at l + j < length xs
        inside =
            let i = name-lies m.small in
            let a = m.pool.room.heads in
            omega arith

        rank-here : rank_at l ranked j ≡ r
        rank-here = get_or-set_same xs (chains_at l + j) r 0 inside

        old-ranks : (i : ℕ) → i < j → kind s i ≡ variable_kind → Ranked s l n ranked i
        old-ranks i c v =
            ranked-kept n ranked (omega arith) (get_or-set_other xs (chains_at l + j) (chains_at l + i) r 0 (λ q. omega arith))
            (λ e d. get_or-set_other xs (chains_at l + j) (names_at l + e) r 0 (λ q. omega arith))
            (m.ranks i c v)

        rank-pool : TextPool s l n ranked
        rank-pool = pool-beside m.pool (chains_at l + j) r (outside_low m.small (chains_at l + j) (omega arith))

        rank-sums : Sums s (sums_from l) ranked
        rank-sums = sums-before m.small (chains_at l + j) r (omega arith) m.sums

        old-zeros : (e : ℕ) → e < n → answer_at l ranked e ≡ 0
        old-zeros e d =
            let w = m.few in
            get_or-set_other xs (chains_at l + j) (tokens_at l + e) r 0 (λ q. omega arith) ∙ m.zeros e d

        -- the name stands already
        met-old : r < n → Met s l (j + 1) n ranked
        met-old c = record {
          small = m.small;
          nodes = m.nodes;
          pool = rank-pool;
          sums = rank-sums;
          few = let w = m.few in omega arith;
          ranks =
              ranks_by old-ranks
              (λ v.
              let e = rank-here in
              record {
                below = omega arith;
                texts =
                    ap (λ (i : ℕ). text s (field_a s (key_at l ranked i))) e
                    ∙ ap (λ (i : ℕ). text s (field_a s i)) (get_or-set_other xs (chains_at l + j) (names_at l + r) r 0 (λ q. omega arith))
                    ∙ text-found m.small m.pool t h r hashed f c
                    ∙ ap (text s) t-is;
              });
          zeros = old-zeros;
        }

        -- the name is new
        module _ (c : n ≤ r) where
          abbrev zeroed : List ℕ
          zeroed = set ranked (tokens_at l + n) 0

          abbrev after : List ℕ
          after = entered (text_hash s) const_slot (name_index l) n j zeroed

          space : n < l.nodes
          space = let w = m.few in omega arith

          key : VariableKey s j
          key = let e = m.nodes in record { below = omega arith; variable = variable }

          zero-pool : TextPool s l n zeroed
          zero-pool = pool-beside rank-pool (tokens_at l + n) 0 (outside_low m.small (tokens_at l + n) (let w = space in omega arith))

          same_keys : region (name_index l).at n zeroed ≡ region (name_index l).at n xs
          same_keys =
              region-beside rank-pool (tokens_at l + n) 0 (outside_low m.small (tokens_at l + n) (let w = space in omega arith))
              ∙ region-beside m.pool (chains_at l + j) r (outside_low m.small (chains_at l + j) (omega arith))

          none : n ≤ first_where (same_text s j) (region (name_index l).at n zeroed)
          none =
              subst (λ (ks : List ℕ). n ≤ first_where (same_text s j) ks) (sym same_keys)
              (subst (λ (u : ℕ). n ≤ first_where (has_text s u) (region (name_index l).at n xs)) t-is
              (subst (λ (i : ℕ). n ≤ i) (text-first m.small m.pool t h r hashed f) c))

          low :
              (i : ℕ) → i < links_at l → (i ≡ names_at l + n → ⊥) → (i ≡ tokens_at l + n → ⊥) → get_or after i 0 ≡ get_or ranked i 0
          low i d ne off =
              let a = (name-lies m.small).at-is in
              entered-low (text-lodged m.small m.nodes) (text_hash s) n j zeroed key (text-word s j) i d
              ∙ get_or-set_other zeroed ((name_index l).at + n) i j 0 (λ q. ne (omega arith))
              ∙ get_or-set_other ranked (tokens_at l + n) i 0 0 off

          long : length zeroed ≡ length xs
          long = length-set ranked (tokens_at l + n) 0 ∙ length-set xs (chains_at l + j) r

          key_here : key_at l after n ≡ j
          key_here =
              let i = name-lies m.small in
              let a = i.at-is in
              let w = space in
              let z = m.pool.room.heads in
              let g = long in
              entered-low (text-lodged m.small m.nodes) (text_hash s) n j zeroed key (text-word s j) (names_at l + n) (omega arith)
              ∙ ap (λ (p : ℕ). get_or (set zeroed (p + n) j) (names_at l + n) 0) a
              ∙ get_or-set_same zeroed (names_at l + n) j 0 (omega arith)

          zero-here : answer_at l after n ≡ 0
          zero-here =
              let i = name-lies m.small in
              let a = i.at-is in
              let w = space in
              let z = m.pool.room.heads in
              let g = length-set xs (chains_at l + j) r in
              entered-low (text-lodged m.small m.nodes) (text_hash s) n j zeroed key (text-word s j) (tokens_at l + n) (omega arith)
              ∙ get_or-set_other zeroed ((name_index l).at + n) (tokens_at l + n) j 0 (λ q. omega arith)
              ∙ get_or-set_same ranked (tokens_at l + n) 0 0 (omega arith)

          rank-after : rank_at l after j ≡ n
          rank-after =
              let w = space in
              low (chains_at l + j) (omega arith) (λ q. omega arith) (λ q. omega arith)
              ∙ rank-here
              ∙ text-rank m.small m.pool t h r hashed f c

          zeros-after : (e : ℕ) → e < n + 1 → Dec (e < n) → answer_at l after e ≡ 0
          zeros-after e d (yes g) =
              let w = space in
              low (tokens_at l + e) (omega arith) (λ q. omega arith) (λ q. omega arith) ∙ old-zeros e g
          zeros-after e d (no g) =
              let z : e ≡ n = omega arith in
              ap (λ (i : ℕ). answer_at l after i) z ∙ zero-here

          met-new : Met s l (j + 1) (n + 1) after
          met-new = record {
            small = m.small;
            nodes = m.nodes;
            pool = pool-new (texts-alike s) zero-pool j (text-self s j) key none space;
            sums =
                let w = space in
                sums-entered m.small (text-lodged m.small m.nodes) (text_hash s) n j key space (text-word s j)
                (sums-before m.small (tokens_at l + n) 0 (omega arith) rank-sums);
            few = let w = m.few in omega arith;
            ranks =
                ranks_by
                (λ i d v.
                let w = space in
                ranked-kept (n + 1) after (omega arith) (low (chains_at l + i) (omega arith) (λ q. omega arith) (λ q. omega arith))
                (λ e g. low (names_at l + e) (omega arith) (λ q. omega arith) (λ q. omega arith)) (old-ranks i d v))
                (λ v.
                let e = rank-after in
                record {
                  below = omega arith;
                  texts = ap (λ (i : ℕ). text s (field_a s (key_at l after i))) e ∙ ap (λ (i : ℕ). text s (field_a s i)) key_here;
                });
            zeros = λ e d. zeros-after e d (dec_lt e n);
          }

-- as the code does it
module _
    {s : List ℕ} {l : Layout} {j n : ℕ} {xs ys : List ℕ} {ix : Index} {k t kept h r p : ℕ} (k-is : k ≡ kind s j)
    (is : k ≡ variable_kind) (ix-is : ix ≡ name_index l) (t-is : t ≡ field_a s j) (kept-is : kept ≡ sums_from l)
    (hashed : BySums s kept xs (bytes_hash (text s t)) h)
    (f : Finds (has_text s t) (text_hash s) const_slot ix n h xs r) (place : p ≡ chains_at l + j) (written : ys ≡ set xs p r)
  where
    -- what is found is there
    there : {o : Option ℕ} → Seeks (has_text s t) (text_hash s) const_slot ix n h xs o → o ≡ Some r → Met s l j n xs → r < n
    there {o} q e m =
        (subst (λ (i : Index). Seeks (has_text s t) (text_hash s) const_slot i n h xs o) ix-is q).there
        (text-sought m.small m.pool t h r ((by-at kept-is hashed).is m.sums) (finds-at ix-is f)) r e

    pub meets-old : {o : Option ℕ} → Seeks (has_text s t) (text_hash s) const_slot ix n h xs o → o ≡ Some r → Meets s l j n xs ys n
    meets-old q e = record {
      met = λ b m.
          subst (Met s l (j + 1) n) (sym (written ∙ ap (λ (i : ℕ). set xs i r) place))
          (met-old (sym k-is ∙ is) t-is ((by-at kept-is hashed).is m.sums) (finds-at ix-is f) b m (there q e m));
    }

    pub meets-new :
        {q o at : ℕ} {us vs zs : List ℕ} {e : ℕ} → n ≤ r → q ≡ tokens_at l + n → us ≡ set ys q 0 → o ≡ names_at l + n → vs ≡ set us o j
        → at ≡ link_at ix (const_slot j) → zs ≡ noted_by (head_at ix h) at (tag_of h) n vs → e ≡ (n + 1) % 4294967296
        → Meets s l j n xs zs e
    meets-new {q} {o} {at} {us} {vs} {zs} {e} c q-is us-is o_is vs-is at-is zs-is e-is = record {
      met = λ b m.
          let small = m.small in
          let few = small.small in
          let w = m.few in
          let count : e ≡ n + 1 = omega arith in
          let told : h ≡ bytes_hash (text s t) = (by-at kept-is hashed).is m.sums in
          let ranked-is : ys ≡ set xs (chains_at l + j) r = written ∙ ap (λ (i : ℕ). set xs i r) place in
          let hash-is : h ≡ text_hash s j = told ∙ ap (λ (u : ℕ). bytes_hash (text s u)) t-is in
          let base = set (set xs (chains_at l + j) r) (tokens_at l + n) 0 in
          let key = set base ((name_index l).at + n) j in
          let us-are : us ≡ base =
          us-is ∙ ap (λ (i : ℕ). set ys i 0) q-is ∙ ap (λ (w : List ℕ). set w (tokens_at l + n) 0) ranked-is in
          let vs-are : vs ≡ key =
          vs-is
          ∙ ap (λ (i : ℕ). set us i j) (o_is ∙ ap (λ (i : ℕ). i + n) (sym (name-lies small).at-is))
          ∙ ap (λ (w : List ℕ). set w ((name_index l).at + n) j) us-are in
          let words : zs ≡ entered (text_hash s) const_slot (name_index l) n j base =
          zs-is
          ∙ ap (λ (i : ℕ). noted_by (head_at ix h) i (tag_of h) n vs) at-is
          ∙ ap (λ (w : List ℕ). noted_by (head_at ix h) (link_at ix (const_slot j)) (tag_of h) n w) vs-are
          ∙ ap (λ (i : Index). noted_by (head_at i h) (link_at i (const_slot j)) (tag_of h) n key) ix-is
          ∙ ap (λ (g : ℕ). noted_by (head_at (name_index l) g) (link_at (name_index l) (const_slot j)) (tag_of g) n key) hash-is in
          subst (λ (i : ℕ). Met s l (j + 1) i zs) (sym count)
          (subst (Met s l (j + 1) (n + 1)) (sym words) (met-new (sym k-is ∙ is) t-is told (finds-at ix-is f) b m c));
    }
