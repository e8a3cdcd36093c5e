-- The places of the indexes: all heads end within 8 words for each instruction, 8 for each node, and 4,096 (`index-fits`); each index lies
-- where the layout says, since no place is cut off where the sheet keeps the format's limits (`Small`).
use Prim.Native.Nat.{ℕ, ◌+◌, ◌*◌, ◌/◌, ◌≤◌, ◌<◌}
use mathlib.Core.Path.{◌≡◌}
use native.Mathlib.Omega.{arith}
use Rattle.scratch.specs.declared.Layout.{Layout}
use Rattle.scratch.specs.declared.Index.{Index}
use Rattle.scratch.specs.Places.{Small, consts_at, tokens_at, chains_at, names_at, links_at, memos_at, memos_from, sums_from}
use Rattle.scratch.specs.Places.{heads_at, index_end}
use Rattle.scratch.specs.Places.{name_heads, const_heads, token_heads, const_heads_at, token_heads_at, chain_heads_at}
use Rattle.scratch.specs.Places.{index_at, name_index, const_index, token_index, chain_index}

-- how many heads
pub record Heads (count few : ℕ) : Type 0 where
  pub some : 0 < count
  pub up_to : count ≤ few

module _ (l : Layout) where
  pub name-heads : Heads (name_heads l) (l.most + 1024)
  unfolding name_heads
  name-heads = record { some = omega arith; up_to = omega arith }

  pub const-heads : Heads (const_heads l) (l.most / 2 + 256)
  unfolding const_heads
  const-heads = record { some = omega arith; up_to = omega arith }

  pub token-heads : Heads (token_heads l) (l.most / 4 + 256)
  unfolding token_heads
  token-heads = record { some = omega arith; up_to = omega arith }

  pub index-fits : index_end l ≤ 8 * l.most + 8 * l.nodes + 4096
  index-fits =
      let n = name-heads in
      let c = const-heads in
      let t = token-heads in
      omega arith

-- an index lies at these places
pub record Lies (ix : Index) (heads count at links : ℕ) : Type 0 where
  pub heads-is : ix.heads ≡ heads
  pub count_is : ix.count ≡ count
  pub at-is : ix.at ≡ at
  pub links_is : ix.links ≡ links

-- the kept folds lie behind the memos and before the heads
pub record SumsLie (l : Layout) : Type 0 where
  pub behind : memos_at l + 1024 ≤ sums_from l
  pub before : sums_from l + 1024 ≤ heads_at l

index-lies :
    (heads count at links : ℕ) → heads < 4294967296 → count < 4294967296 → at < 4294967296 → links < 4294967296
    → Lies (index_at heads count at links) heads count at links
unfolding index_at
index-lies heads count at links h c a k =
    record { heads-is = omega arith; count_is = omega arith; at-is = omega arith; links_is = omega arith }

module _ {l : Layout} (fit : Small l) where
  end_low : index_end l < 4294967296
  end_low = let e = index-fits l in omega arith

  pub name-lies : Lies (name_index l) (heads_at l) (name_heads l) (names_at l) (links_at l)
  name-lies =
      let e = end_low in
      index-lies (heads_at l) (name_heads l) (names_at l) (links_at l) (omega arith) (omega arith) (omega arith) (omega arith)

  pub const-lies : Lies (const_index l) (const_heads_at l) (const_heads l) (consts_at l) (links_at l)
  const-lies =
      let e = end_low in
      index-lies (const_heads_at l) (const_heads l) (consts_at l) (links_at l) (omega arith) (omega arith) (omega arith) (omega arith)

  pub token-lies : Lies (token_index l) (token_heads_at l) (token_heads l) (tokens_at l) (links_at l)
  token-lies =
      let e = end_low in
      index-lies (token_heads_at l) (token_heads l) (tokens_at l) (links_at l) (omega arith) (omega arith) (omega arith) (omega arith)

  pub chain-lies : Lies (chain_index l) (chain_heads_at l) (token_heads l) (chains_at l) (links_at l)
  chain-lies =
      let e = end_low in
      index-lies (chain_heads_at l) (token_heads l) (chains_at l) (links_at l) (omega arith) (omega arith) (omega arith) (omega arith)

  pub memos-lie : memos_from l ≡ memos_at l
  unfolding memos_from
  memos-lie = let e = end_low in omega arith

  pub sums-lie : SumsLie l
  unfolding sums_from
  sums-lie = let e = end_low in record { behind = omega arith; before = omega arith }
