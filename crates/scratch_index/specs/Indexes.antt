-- All indexes together: the scratch xs holds cs constants, ts tokens, hs chains and ns names of sheet s, each with its index, and the
-- memos of the names, the slots of the Variables and the kept folds are true.
use Rattle.std.specs.Prelude.{◌≡◌, ℕ, ◌+◌, List, slice_set}
use Rattle.sheet.specs.Sections.{node_count}
use Rattle.lowering.specs.Pools.{Name}
use Rattle.expr_chains.specs.Same.{same_nodes}
use Rattle.scratch_keys.specs.Used.{ConstKey, TokenKey, ChainKey}
use Rattle.scratch.specs.declared.Layout.{Layout}
use Rattle.scratch.specs.declared.Index.{Index}
use Rattle.scratch.specs.Places.{Small, consts_at, tokens_at, chains_at, names_at, sums_from, const_index, token_index, chain_index}
use Rattle.scratch.specs.Places.{name_index}
use Rattle.scratch_folds.specs.Sums.{Sums}
use Rattle.scratch_index.specs.Table.{head_at, link_at, tag_of, noted_by}
use Rattle.scratch_index.specs.Pool.{Pool}
use Rattle.scratch_index.specs.Consts.{const_slot, same_const_of, const_hash, same_token_of, token_hash}
use Rattle.scratch_index.specs.Names.{name_hash, name_slot}
use Rattle.scratch_index.specs.Held.{names_held, NamePool, NameMemos}
use Rattle.scratch_index.specs.Chains.{chain_hash}
use Rattle.scratch_index.specs.Locals.{Slots}

abbrev pub ConstPool : List ℕ → Layout → ℕ → List ℕ → Type 0
ConstPool s l n xs = Pool (same_const_of s) (const_hash s) (ConstKey s) const_slot (const_index l) l.nodes n xs

abbrev pub TokenPool : List ℕ → Layout → ℕ → List ℕ → Type 0
TokenPool s l n xs = Pool (same_token_of s) (token_hash s) (TokenKey s) const_slot (token_index l) l.nodes n xs

-- with the places of names among these
abbrev pub ChainPool : List ℕ → Layout → List Name → ℕ → List ℕ → Type 0
ChainPool s l names n xs = Pool (same_nodes s) (chain_hash s names) (ChainKey s) const_slot (chain_index l) l.nodes n xs

pub record Indexes (s : List ℕ) (l : Layout) (cs ts hs ns : ℕ) (xs : List ℕ) : Type 0 where
  pub small : Small l
  pub nodes : l.nodes ≡ node_count s
  pub consts : ConstPool s l cs xs
  pub tokens : TokenPool s l ts xs
  pub chains : ChainPool s l (names_held s l ns xs) hs xs
  pub names : NamePool s l ns xs
  pub memos : NameMemos s l ns xs
  pub slots : Slots s l xs
  pub sums : Sums s (sums_from l) xs

-- the words when the entry with key j is added to n others: its key behind theirs, its link, its head
abbrev pub added_to : Index → ℕ → ℕ → ℕ → ℕ → ℕ → List ℕ → List ℕ
added_to ix at slot h n j xs = noted_by (head_at ix h) (link_at ix slot) (tag_of h) n (slice_set xs (at + n) j)

abbrev pub const_added : List ℕ → Layout → ℕ → ℕ → List ℕ → List ℕ
const_added s l n j xs = added_to (const_index l) (consts_at l) (const_slot j) (const_hash s j) n j xs

abbrev pub token_added : List ℕ → Layout → ℕ → ℕ → List ℕ → List ℕ
token_added s l n j xs = added_to (token_index l) (tokens_at l) (const_slot j) (token_hash s j) n j xs

abbrev pub chain_added : List ℕ → Layout → List Name → ℕ → ℕ → List ℕ → List ℕ
chain_added s l names n j xs = added_to (chain_index l) (chains_at l) (const_slot j) (chain_hash s names j) n j xs

abbrev pub name_added : List ℕ → Layout → ℕ → ℕ → List ℕ → List ℕ
name_added s l n k xs = added_to (name_index l) (names_at l) (name_slot k) (name_hash s k) n k xs
