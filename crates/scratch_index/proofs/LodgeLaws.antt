-- Where the four indexes lie: each has its room (`lodged-room`), is outside of what is written before it or to the memos, and keeps its
-- entries when another has one more (`lodged-other`).
use Rattle.std.proofs.Common.{◌≡◌, ℕ, ◌+◌, ◌*◌, ◌<◌, ◌≤◌, Bool, List, set, sym, ◌∙◌, arith}
use Rattle.sheet.specs.Sections.{node_count}
use Rattle.lowering.specs.Limits.{names_per_node}
use Rattle.scratch_keys.specs.Used.{ConstKey, TokenKey, ChainKey, NameKey}
use Rattle.scratch.specs.declared.Layout.{Layout}
use Rattle.scratch.specs.declared.Index.{Index}
use Rattle.scratch.specs.Places.{Small, consts_at, links_at, memos_at, heads_at, index_end, region}
use Rattle.scratch.specs.Places.{const_index, token_index, chain_index, name_index}
use Rattle.scratch.proofs.RegionLaws.{region-behind}
use Rattle.scratch.proofs.PlaceLaws.{name-heads, const-heads, token-heads, name-lies, const-lies, token-lies, chain-lies}
use Rattle.scratch_index.specs.Table.{head_at, link_at, tag_of, noted_by}
use Rattle.scratch_index.specs.Pool.{Room, Pool}
use Rattle.scratch_index.specs.Consts.{const_slot}
use Rattle.scratch_index.specs.Names.{name_slot}
use Rattle.scratch_index.proofs.TableLaws.{bucket-below}
use Rattle.scratch_index.proofs.BesideLaws.{Outside, pool-other}
use Rattle.scratch_index.proofs.PoolLaws.{entered}
use Rattle.scratch_index.proofs.SlotLaws.{node-slots, name-slots, name-slot-below, const-token, const-chain}
use Rattle.scratch_index.proofs.SlotLaws.{token-chain, const-name, token-name, chain-name}

-- an index lies within the layout
pub record Lodged (l : Layout) (Used : ℕ → Type 0) (slot : ℕ → ℕ) (ix : Index) (cap : ℕ) : Type 0 where
  pub few : cap < 524288
  pub some : 0 < ix.count
  pub from : consts_at l ≤ ix.at
  pub to : ix.at + cap ≤ links_at l
  pub linked : ix.links ≡ links_at l
  pub below : (k : ℕ) → Used k → slot k < 2 * l.nodes
  pub heads-from : heads_at l ≤ ix.heads
  pub heads-to : ix.heads + ix.count ≤ index_end l
  pub apart : (i j : ℕ) → Used i → Used j → slot i ≡ slot j → i ≡ j

module _ {l : Layout} {Used : ℕ → Type 0} {slot : ℕ → ℕ} {ix : Index} {cap : ℕ} (d : Lodged l Used slot ix cap) where
  pub lodged-room : (len : ℕ) → index_end l ≤ len → Room Used slot ix cap len
  lodged-room len h = record {
    small = d.few;
    some = d.some;
    keys = omega arith;
    links = omega arith;
    heads = omega arith;
    slots = λ k u. let b = d.below k u in omega arith;
    apart = d.apart;
  }

  -- a word before the keys
  pub outside-before : (i : ℕ) → i < consts_at l → Outside Used slot ix cap i
  outside-before i h = record {
    off-keys = λ e m q. omega arith;
    off-heads = λ b m q. omega arith;
    off-slots = λ k u q. omega arith;
  }

  -- a word of the memos
  pub outside-memos : (i : ℕ) → memos_at l ≤ i → i < heads_at l → Outside Used slot ix cap i
  outside-memos i h m = record {
    off-keys = λ e n q. omega arith;
    off-heads = λ b n q. omega arith;
    off-slots = λ k u q. let b = d.below k u in omega arith;
  }

  -- the places that a new entry takes
  pub key-place : (n : ℕ) → n < cap → (consts_at l ≤ ix.at + n) × (ix.at + n < links_at l)
  key-place n h = (omega arith, omega arith)

  pub link-place : (k : ℕ) → Used k → (links_at l ≤ link_at ix (slot k)) × (link_at ix (slot k) < memos_at l)
  link-place k u = let b = d.below k u in (omega arith, omega arith)

  pub head-place : (h : ℕ) → h < 4294967296 → (heads_at l ≤ head_at ix h) × (head_at ix h < ix.heads + ix.count)
  head-place h w = let b = bucket-below ix.count h w d.some in (omega arith, omega arith)

  -- lists before the links stay but for the key
  pub lodged-lists :
      (hash : ℕ → ℕ) (n j at k : ℕ) (xs : List ℕ) → Used j → hash j < 4294967296 → at + k ≤ links_at l
      → region at k (entered hash slot ix n j xs) ≡ region at k (set xs (ix.at + n) j)
  unfolding noted_by
  lodged-lists hash n j at k xs u w h =
      let p = link-place j u in
      let q = head-place (hash j) w in
      let p0 = p.0 in
      let q0 = q.0 in
      region-behind at k (head_at ix (hash j)) _ _ (omega arith) ∙ region-behind at k (link_at ix (slot j)) _ _ (omega arith)

-- two pools have no word in common
pub record Beside
    (UsedA : ℕ → Type 0) (slotA : ℕ → ℕ) (a : Index) (capA : ℕ) (UsedB : ℕ → Type 0) (slot_b : ℕ → ℕ) (b : Index) (capB : ℕ)
    : Type 0 where
  pub keys : (e f : ℕ) → e < capA → f < capB → a.at + e ≡ b.at + f → ⊥
  pub heads : (e f : ℕ) → e < a.count → f < b.count → a.heads + e ≡ b.heads + f → ⊥
  pub slots : (i j : ℕ) → UsedA i → UsedB j → slotA i ≡ slot_b j → ⊥

pub beside-swap :
    {UsedA UsedB : ℕ → Type 0} {slotA slot_b : ℕ → ℕ} {a b : Index} {capA capB : ℕ}
    → Beside UsedA slotA a capA UsedB slot_b b capB → Beside UsedB slot_b b capB UsedA slotA a capA
beside-swap x = record {
  keys = λ e f m n q. x.keys f e n m (sym q);
  heads = λ e f m n q. x.heads f e n m (sym q);
  slots = λ i j u v q. x.slots j i v u (sym q);
}

-- pool A stays where pool B has one more entry
module _
    {l : Layout} {UsedA UsedB : ℕ → Type 0} {slotA slot_b : ℕ → ℕ} {a b : Index} {capA capB : ℕ} (da : Lodged l UsedA slotA a capA)
    (db : Lodged l UsedB slot_b b capB) (x : Beside UsedA slotA a capA UsedB slot_b b capB)
  where
    outside-key : (n : ℕ) → n < capB → Outside UsedA slotA a capA (b.at + n)
    outside-key n h = record {
      off-keys = λ e m q. x.keys e n m h q;
      off-heads = λ e m q. omega arith;
      off-slots = λ k u q. omega arith;
    }

    outside-link : (j : ℕ) → UsedB j → Outside UsedA slotA a capA (link_at b (slot_b j))
    outside-link j v =
        let r = db.below j v in
        record {
          off-keys = λ e m q. omega arith;
          off-heads = λ e m q. omega arith;
          off-slots = λ k u q. x.slots k j u v (omega arith);
        }

    outside-head : (h : ℕ) → h < 4294967296 → Outside UsedA slotA a capA (head_at b h)
    outside-head h w =
        let r = bucket-below b.count h w db.some in
        record {
          off-keys = λ e m q. omega arith;
          off-heads = λ e m q. x.heads e _ m r q;
          off-slots = λ k u q. let s = da.below k u in omega arith;
        }

    pub lodged-other :
        {same : ℕ → ℕ → Bool} {hash : ℕ → ℕ} {m : ℕ} {xs : List ℕ} → Pool same hash UsedA slotA a capA m xs
        → (other : ℕ → ℕ) (n j : ℕ) → UsedB j → n < capB → other j < 4294967296
        → Pool same hash UsedA slotA a capA m (entered other slot_b b n j xs)
    lodged-other p other n j u h w =
        pool-other p (b.at + n) j (head_at b (other j)) (link_at b (slot_b j)) (tag_of (other j)) n (outside-key n h)
        (outside-head (other j) w) (outside-link j u)

-- the four
module _ {s : List ℕ} {l : Layout} (small : Small l) (nodes : l.nodes ≡ node_count s) where
  pub const-lodged : Lodged l (ConstKey s) const_slot (const_index l) l.nodes
  const-lodged =
      let i = const-lies small in
      let h = const-heads l in
      record {
        few = omega arith;
        some = omega arith;
        from = omega arith;
        to = omega arith;
        linked = i.links_is;
        below = λ k u. omega arith;
        heads-from = omega arith;
        heads-to = omega arith;
        apart = λ i j u v q. node-slots i j q;
      }

  pub token-lodged : Lodged l (TokenKey s) const_slot (token_index l) l.nodes
  token-lodged =
      let i = token-lies small in
      let h = token-heads l in
      record {
        few = omega arith;
        some = omega arith;
        from = omega arith;
        to = omega arith;
        linked = i.links_is;
        below = λ k u. omega arith;
        heads-from = omega arith;
        heads-to = omega arith;
        apart = λ i j u v q. node-slots i j q;
      }

  pub chain-lodged : Lodged l (ChainKey s) const_slot (chain_index l) l.nodes
  chain-lodged =
      let i = chain-lies small in
      let h = token-heads l in
      record {
        few = omega arith;
        some = omega arith;
        from = omega arith;
        to = omega arith;
        linked = i.links_is;
        below = λ k u. omega arith;
        heads-from = omega arith;
        heads-to = omega arith;
        apart = λ i j u v q. node-slots i j q;
      }

  pub name-lodged : Lodged l (NameKey s) name_slot (name_index l) (names_per_node * l.nodes)
  name-lodged =
      let i = name-lies small in
      let h = name-heads l in
      record {
        few = omega arith;
        some = omega arith;
        from = omega arith;
        to = omega arith;
        linked = i.links_is;
        below = λ k u. name-slot-below l.nodes k (let b = u.below in omega arith);
        heads-from = omega arith;
        heads-to = omega arith;
        apart = λ i j u v q. name-slots s i j u v q;
      }

  -- each pair
  pub const-token-beside : Beside (ConstKey s) const_slot (const_index l) l.nodes (TokenKey s) const_slot (token_index l) l.nodes
  const-token-beside =
      let a = const-lies small in
      let b = token-lies small in
      record { keys = λ e f m n q. omega arith; heads = λ e f m n q. omega arith; slots = const-token s }

  pub const-chain-beside : Beside (ConstKey s) const_slot (const_index l) l.nodes (ChainKey s) const_slot (chain_index l) l.nodes
  const-chain-beside =
      let a = const-lies small in
      let b = chain-lies small in
      record { keys = λ e f m n q. omega arith; heads = λ e f m n q. omega arith; slots = const-chain s }

  pub const-name-beside : Beside (ConstKey s) const_slot (const_index l) l.nodes (NameKey s) name_slot (name_index l)
      (names_per_node * l.nodes)
  const-name-beside =
      let a = const-lies small in
      let b = name-lies small in
      record { keys = λ e f m n q. omega arith; heads = λ e f m n q. omega arith; slots = const-name s }

  pub token-chain-beside : Beside (TokenKey s) const_slot (token_index l) l.nodes (ChainKey s) const_slot (chain_index l) l.nodes
  token-chain-beside =
      let a = token-lies small in
      let b = chain-lies small in
      record { keys = λ e f m n q. omega arith; heads = λ e f m n q. omega arith; slots = token-chain s }

  pub token-name-beside : Beside (TokenKey s) const_slot (token_index l) l.nodes (NameKey s) name_slot (name_index l)
      (names_per_node * l.nodes)
  token-name-beside =
      let a = token-lies small in
      let b = name-lies small in
      record { keys = λ e f m n q. omega arith; heads = λ e f m n q. omega arith; slots = token-name s }

  pub chain-name-beside : Beside (ChainKey s) const_slot (chain_index l) l.nodes (NameKey s) name_slot (name_index l)
      (names_per_node * l.nodes)
  chain-name-beside =
      let a = chain-lies small in
      let b = name-lies small in
      record { keys = λ e f m n q. omega arith; heads = λ e f m n q. omega arith; slots = chain-name s }
