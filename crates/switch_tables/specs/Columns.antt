-- The flat table of a switch: where each column stands, and its cells. Columns of blocks, cases and ranges have max_entries
-- cells, those of cuts max_cuts, those of bands max_bands; a count is one cell. Definitions; assume nothing.
use Rattle.std.specs.Prelude.{ℕ, zero, suc, ◌+◌, ◌<◌, ◌≤◌, ◌≡◌, List, [], ◌∷◌, ◌++◌, get_or}
use Rattle.sheet.specs.Limits.{max_entries}
use Rattle.lowering.specs.Limits.{max_bands}

-- ends of ranges: two for each
abbrev pub max_cuts : ℕ
max_cuts = 128

-- the guard of each block: what it is, its instructions with its jump, those that are emitted, its node
abbrev pub guard_at : ℕ
guard_at = 0

abbrev pub guard_len_at : ℕ
guard_len_at = guard_at + max_entries

abbrev pub guard_emitted_at : ℕ
guard_emitted_at = guard_len_at + max_entries

abbrev pub guard_node_at : ℕ
guard_node_at = guard_emitted_at + max_entries

-- the cases: how many heads they have, the number of each case's head; of each head the node and the hash of its list
abbrev pub case_heads_at : ℕ
case_heads_at = guard_node_at + max_entries

abbrev pub case_number_at : ℕ
case_number_at = case_heads_at + 1

abbrev pub head_node_at : ℕ
head_node_at = case_number_at + max_entries

abbrev pub head_hash_at : ℕ
head_hash_at = head_node_at + max_entries

-- the ranges as intervals of pieces: how many, first piece, piece behind the last, block; the cuts, low and high words
abbrev pub spans_at : ℕ
spans_at = head_hash_at + max_entries

abbrev pub first_at : ℕ
first_at = spans_at + 1

abbrev pub behind_at : ℕ
behind_at = first_at + max_entries

abbrev pub block_at : ℕ
block_at = behind_at + max_entries

abbrev pub low_at : ℕ
low_at = block_at + max_entries

abbrev pub high_at : ℕ
high_at = low_at + max_cuts

-- the bands: how many, first piece, last piece
abbrev pub bands_at : ℕ
bands_at = high_at + max_cuts

abbrev pub band_first_at : ℕ
band_first_at = bands_at + 1

abbrev pub band_last_at : ℕ
band_last_at = band_first_at + max_bands

-- the heads of bands: how many, the number of each band's head; of each head its first piece
abbrev pub band_heads_at : ℕ
band_heads_at = band_last_at + max_bands

abbrev pub band_number_at : ℕ
band_number_at = band_heads_at + 1

abbrev pub band_head_at : ℕ
band_head_at = band_number_at + max_bands

-- the hash of each band's list and of each head's, until the heads are found
abbrev pub band_hash_at : ℕ
band_hash_at = band_head_at + max_bands

abbrev pub band_head_hash_at : ℕ
band_head_hash_at = band_hash_at + max_bands

-- in their stead, of each head of bands: the place of its chain, and where it goes without one
abbrev pub band_place_at : ℕ
band_place_at = band_hash_at

abbrev pub band_exit_at : ℕ
band_exit_at = band_head_hash_at

-- the blocks that have a body; of each head of cases the place of its chain, and where it goes without one; the place of each body
abbrev pub wanted_at : ℕ
wanted_at = band_head_hash_at + max_bands

abbrev pub case_place_at : ℕ
case_place_at = wanted_at + max_entries

abbrev pub case_exit_at : ℕ
case_exit_at = case_place_at + max_entries

abbrev pub body_at : ℕ
body_at = case_exit_at + max_entries

-- the second Switch, the default, the end, and where a case goes that no guard takes
abbrev pub dispatch_at : ℕ
dispatch_at = body_at + max_entries

abbrev pub default_at : ℕ
default_at = dispatch_at + 1

abbrev pub end_at : ℕ
end_at = default_at + 1

abbrev pub fallback_at : ℕ
fallback_at = end_at + 1

-- where the value of each case stands among the constants
abbrev pub case_const_at : ℕ
case_const_at = fallback_at + 1

-- all cells
abbrev pub size : ℕ
size = case_const_at + max_entries

-- ---- cells

abbrev pub cell : List ℕ → ℕ → ℕ
cell w i = get_or w i 0

-- the first n cells from `at` on
unfoldable pub column : List ℕ → ℕ → ℕ → List ℕ
column w at zero = []
column w at (suc n) = column w at n ++ (cell w (at + n) ∷ [])

-- v is w but for cells from lo up to, and without, hi
pub record Within (lo hi : ℕ) (w v : List ℕ) : Type 0 where
  pub low : (i : ℕ) → i < lo → cell v i ≡ cell w i
  pub high : (i : ℕ) → hi ≤ i → cell v i ≡ cell w i
