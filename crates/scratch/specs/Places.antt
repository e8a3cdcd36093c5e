-- Where each list lies in the scratch, in words. The counts of words for each instruction that may be emitted and for each node stand
-- here once; src/lib.rt has the same for the code.
use Rattle.std.specs.Prelude.{ℕ, ◌+◌, ◌*◌, ◌/◌, ◌%◌, ◌≤◌, min, List, take, drop}
use Rattle.sheet.specs.Limits.{max_nodes}
use Rattle.lowering.specs.Limits.{max_emitted, op_width, code_width}
use Rattle.scratch.specs.declared.Layout.{Layout}
use Rattle.scratch.specs.declared.Index.{Index}
use Rattle.scratch.specs.Clear.{cleared}

-- words for each instruction: its four words, its position, a residual
abbrev pub per_emitted : ℕ
per_emitted = 6

-- words for each node: the keys of a constant, a token, a chain and three names
abbrev pub per_node : ℕ
per_node = 6

-- pairs of the memos for names
abbrev pub memo_pairs : ℕ
memo_pairs = 512

-- and their words
abbrev pub memo_words : ℕ
memo_words = 1024

-- words of the memos and of the kept folds behind them
abbrev pub beside_words : ℕ
beside_words = 2048

-- behind all words for instructions and n words for each node
abbrev pub behind : ℕ → Layout → ℕ
behind n l = per_emitted * l.most + n * l.nodes

abbrev pub positions_at : Layout → ℕ
positions_at l = op_width * l.most

abbrev pub residuals_at : Layout → ℕ
residuals_at l = code_width * l.most

abbrev pub consts_at : Layout → ℕ
consts_at l = per_emitted * l.most

abbrev pub tokens_at : Layout → ℕ
tokens_at l = per_emitted * l.most + l.nodes

abbrev pub chains_at : Layout → ℕ
chains_at l = per_emitted * l.most + 2 * l.nodes

abbrev pub names_at : Layout → ℕ
names_at l = per_emitted * l.most + 3 * l.nodes

-- words of all lists
abbrev pub words_of : Layout → ℕ
words_of l = per_emitted * l.most + per_node * l.nodes

-- the links of the indexes: two for each node
abbrev pub links_at : Layout → ℕ
links_at l = words_of l

-- the memos: 512 pairs for names
abbrev pub memos_at : Layout → ℕ
memos_at l = per_emitted * l.most + 8 * l.nodes

-- the folds that are kept for long texts: a word for each block of text bytes
abbrev pub sums_at : Layout → ℕ
sums_at l = memos_at l + memo_words

-- the heads of the indexes: a table for each pool, those of the names first
abbrev pub heads_at : Layout → ℕ
heads_at l = per_emitted * l.most + 8 * l.nodes + beside_words

-- how many heads: few for a small sheet, since they are cleared before each lowering
unfoldable pub name_heads : Layout → ℕ
name_heads l = min (l.most + 1024) (2 * l.nodes + 64)

unfoldable pub const_heads : Layout → ℕ
const_heads l = min (l.most / 2 + 256) (l.nodes + 64)

-- and the chains have as many
unfoldable pub token_heads : Layout → ℕ
token_heads l = min (l.most / 4 + 256) (l.nodes + 64)

abbrev pub const_heads_at : Layout → ℕ
const_heads_at l = heads_at l + name_heads l

abbrev pub token_heads_at : Layout → ℕ
token_heads_at l = const_heads_at l + const_heads l

abbrev pub chain_heads_at : Layout → ℕ
chain_heads_at l = token_heads_at l + token_heads l

-- the end of all
abbrev pub index_end : Layout → ℕ
index_end l = chain_heads_at l + token_heads l

-- an index, its places as words
unfoldable pub index_at : ℕ → ℕ → ℕ → ℕ → Index
index_at heads count at links = record {
  heads = heads % 4294967296;
  count = count % 4294967296;
  at = at % 4294967296;
  links = links % 4294967296;
}

abbrev pub name_index : Layout → Index
name_index l = index_at (heads_at l) (name_heads l) (names_at l) (links_at l)

abbrev pub const_index : Layout → Index
const_index l = index_at (const_heads_at l) (const_heads l) (consts_at l) (links_at l)

abbrev pub token_index : Layout → Index
token_index l = index_at (token_heads_at l) (token_heads l) (tokens_at l) (links_at l)

abbrev pub chain_index : Layout → Index
chain_index l = index_at (chain_heads_at l) (token_heads l) (chains_at l) (links_at l)

-- the memos' place as a word
unfoldable pub memos_from : Layout → ℕ
memos_from l = memos_at l % 4294967296

-- and that of the kept folds
unfoldable pub sums_from : Layout → ℕ
sums_from l = sums_at l % 4294967296

-- no entry in any index, and nothing told by the memos of names
unfoldable pub cleared_index : Layout → List ℕ → List ℕ
cleared_index l xs =
    cleared (heads_at l % 4294967296) ((name_heads l + const_heads l + 2 * token_heads l) % 4294967296)
    (cleared (memos_from l) memo_words xs)

-- the format's limits
pub record Small (l : Layout) : Type 0 where
  pub few : l.most ≤ max_emitted
  pub small : l.nodes ≤ max_nodes

-- k words from place at on
unfoldable pub region : ℕ → ℕ → List ℕ → List ℕ
region at k xs = take k (drop at xs)
