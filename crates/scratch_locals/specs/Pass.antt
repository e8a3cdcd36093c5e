-- The pass that finds the local of each Variable: what the scratch holds on the way. Different names of Variables stand as a pool, by the
-- Variable met first, in the index of the names; the word of node j among the keys of chains has the rank of Variable j's name, the word
-- of a rank among the keys of tokens its local. What is kept for long texts stays.
use Rattle.std.specs.Prelude.{◌≡◌, ℕ, zero, suc, ◌+◌, ◌<◌, ◌≤◌, Bool, List, length, slice_index, Option, Some, None}
use Rattle.text.specs.Same.{same}
use Rattle.sheet.specs.Sections.{node_count}
use Rattle.sheet.specs.Node.{kind, field_a}
use Rattle.sheet.specs.Text.{text}
use Rattle.lowering.specs.Kinds.{variable_kind}
use Rattle.lowering.specs.Slots.{resolve_below}
use Rattle.scratch.specs.declared.Layout.{Layout}
use Rattle.scratch.specs.Places.{Small, tokens_at, chains_at, names_at, links_at, sums_from, index_end, name_index}
use Rattle.scratch_index.specs.Pool.{Pool}
use Rattle.scratch_folds.specs.Hash.{bytes_hash}
use Rattle.scratch_folds.specs.Sums.{Sums}
use Rattle.scratch_index.specs.Consts.{const_slot}
use Rattle.scratch_index.specs.Locals.{slot_word, local_word}
use Rattle.scratch_index.specs.Indexes.{Indexes}

-- node k has text t
abbrev pub has_text : List ℕ → ℕ → ℕ → Bool
has_text s t k = same (text s t) (text s (field_a s k))

-- nodes j and k have the same text
abbrev pub same_text : List ℕ → ℕ → ℕ → Bool
same_text s j k = has_text s (field_a s j) k

abbrev pub text_hash : List ℕ → ℕ → ℕ
text_hash s k = bytes_hash (text s (field_a s k))

pub record VariableKey (s : List ℕ) (j : ℕ) : Type 0 where
  pub below : j < node_count s
  pub variable : kind s j ≡ variable_kind

-- n different names
abbrev pub TextPool : List ℕ → Layout → ℕ → List ℕ → Type 0
TextPool s l n xs = Pool (same_text s) (text_hash s) (VariableKey s) const_slot (name_index l) l.nodes n xs

-- the word that has the rank of node i, and the node met first with the name of rank r
abbrev pub rank_at : Layout → List ℕ → ℕ → ℕ
rank_at l xs i = slice_index xs (chains_at l + i)

abbrev pub key_at : Layout → List ℕ → ℕ → ℕ
key_at l xs r = slice_index xs (names_at l + r)

-- the word that has its local
abbrev pub answer_at : Layout → List ℕ → ℕ → ℕ
answer_at l xs r = slice_index xs (tokens_at l + r)

-- Variable i has the name of its rank
pub record Ranked (s : List ℕ) (l : Layout) (n : ℕ) (xs : List ℕ) (i : ℕ) : Type 0 where
  pub below : rank_at l xs i < n
  pub texts : text s (field_a s (key_at l xs (rank_at l xs i))) ≡ text s (field_a s i)

-- the first j nodes are met, and have n different names
pub record Met (s : List ℕ) (l : Layout) (j n : ℕ) (xs : List ℕ) : Type 0 where
  pub small : Small l
  pub nodes : l.nodes ≡ node_count s
  pub pool : TextPool s l n xs
  pub sums : Sums s (sums_from l) xs
  pub few : n ≤ j
  pub ranks : (i : ℕ) → i < j → kind s i ≡ variable_kind → Ranked s l n xs i
  pub zeros : (r : ℕ) → r < n → answer_at l xs r ≡ 0

-- node j is met next
pub record Meets (s : List ℕ) (l : Layout) (j n : ℕ) (xs ys : List ℕ) (r : ℕ) : Type 0 where
  pub met : j < l.nodes → Met s l j n xs → Met s l (j + 1) r ys

-- all nodes are met, and the first k locals are told
pub record Telling (s : List ℕ) (l : Layout) (n k : ℕ) (xs : List ℕ) : Type 0 where
  pub small : Small l
  pub pool : TextPool s l n xs
  pub sums : Sums s (sums_from l) xs
  pub ranks : (i : ℕ) → i < l.nodes → kind s i ≡ variable_kind → Ranked s l n xs i
  pub answers : (r : ℕ) → r < n → answer_at l xs r ≡ slot_word (resolve_below k s (text s (field_a s (key_at l xs r))))

-- local k is told next
pub record Tells (s : List ℕ) (l : Layout) (n k : ℕ) (xs ys : List ℕ) : Type 0 where
  pub told : k + 1 < 4294967296 → Telling s l n k xs → Telling s l n (k + 1) ys

-- the local of Variable i stands by its rank
pub record Aimed (s : List ℕ) (l : Layout) (xs : List ℕ) (i : ℕ) : Type 0 where
  pub below : rank_at l xs i < l.nodes
  pub word : answer_at l xs (rank_at l xs i) ≡ local_word s i

-- all locals are told, and the first j nodes have theirs in their slots
pub record Settling (s : List ℕ) (l : Layout) (j : ℕ) (xs : List ℕ) : Type 0 where
  pub small : Small l
  pub room : index_end l ≤ length xs
  pub sums : Sums s (sums_from l) xs
  pub aims : (i : ℕ) → i < l.nodes → kind s i ≡ variable_kind → Aimed s l xs i
  pub done : (i : ℕ) → i < j → kind s i ≡ variable_kind → slice_index xs (links_at l + const_slot i) ≡ local_word s i

-- node j is settled next
pub record Settles (s : List ℕ) (l : Layout) (j : ℕ) (xs ys : List ℕ) : Type 0 where
  pub settled : j < l.nodes → Settling s l j xs → Settling s l (j + 1) ys

-- the whole pass
pub record Prepares (s : List ℕ) (l : Layout) (xs ys : List ℕ) : Type 0 where
  pub prepared : Small l → l.nodes ≡ node_count s → index_end l ≤ length xs → Sums s (sums_from l) xs → Settling s l l.nodes ys

-- no entry stands in any index, the locals are told, and what is kept for long texts is written
pub record Begins (s : List ℕ) (l : Layout) (xs ys : List ℕ) : Type 0 where
  pub long : length ys ≡ length xs
  pub index : Small l → l.nodes ≡ node_count s → index_end l ≤ length xs → Indexes s l 0 0 0 0 ys

-- a word of a slot as an answer
unfoldable pub found_by : ℕ → Option ℕ
found_by zero = None
found_by (suc k) = Some k
