-- What the flat table has of the switch at node 0 of a sheet.
use Rattle.std.specs.Prelude.{ℕ, zero, suc, ◌+◌, ◌<◌, ◌≤◌, min, ◌≡◌, Bool, true, false, List, [], ◌∷◌, ◌++◌, map, length, take}
use Rattle.sheet.specs.Limits.{max_depth, max_entries}
use Rattle.sheet.specs.Walk.{skip}
use Rattle.check_switches.specs.Switch.{case_count, first_case}
use Rattle.switch_split.specs.Excess.{low_word, high_word}
use Rattle.switch_split.specs.Range.{Range}
use Rattle.switch_split.specs.Points.{cuts}
use Rattle.switch_split.specs.Piece.{cut_at}
use Rattle.switch_split.specs.Split.{atoms}
use Rattle.lowering.specs.Limits.{max_bands}
use Rattle.lowering.specs.SwitchSheet.{guard_of, cases_of, ranges_of}
use Rattle.lowering.specs.Arms.{Guard, never, always, tried, guard_kind, distinct}
use Rattle.expr_count.specs.declared.tallies.Tally.{Tally}
use Rattle.expr_count.specs.Tally.{instructions, plus, capped}
use Rattle.expr_count.specs.Count.{Rec, tally}
use Rattle.switch_tables.specs.Columns.{guard_at, guard_len_at, guard_emitted_at, guard_node_at, case_heads_at, case_number_at, head_node_at}
use Rattle.switch_tables.specs.Columns.{spans_at}
use Rattle.switch_tables.specs.Columns.{first_at, behind_at, block_at, low_at, high_at, bands_at, band_first_at, band_last_at, band_heads_at}
use Rattle.switch_tables.specs.Columns.{band_number_at}
use Rattle.switch_tables.specs.Columns.{band_head_at, band_hash_at, cell, column}
use Rattle.switch_tables.specs.Spans.{Span, span_of, blocks_at}
use Rattle.switch_tables.specs.Heads.{case_key}
use Rattle.switch_tables.specs.Hash.{hash_of}
use Rattle.switch_tables.specs.Numbers.{number_in}
use Rattle.switch_tables.specs.Bands.{bands_in, entry_of, joined}

-- ---- the guards

-- what is kept of a guard: 0 if it is constant false, 1 if it is constant true, 2 if it is tried, 3 if it reaches an `eval` besides; and
-- what it adds
pub record Known : Type 0 where
  pub kind : ℕ
  pub len : ℕ
  pub emitted : ℕ

unfoldable pub tried_kind : Bool → ℕ
tried_kind false = 2
tried_kind true = 3

-- a guard of this kind, which adds a where it is tried
unfoldable pub known_by : Guard → Tally → Known
known_by never a = record { kind = 0; len = 0; emitted = 0 }
known_by always a = record { kind = 1; len = 0; emitted = 0 }
known_by tried a = record { kind = tried_kind a.defeated; len = a.len; emitted = a.emitted }

-- the guard at node g, with its jump, where t is the tally of a node
unfoldable pub known_of : List ℕ → Rec → ℕ → Known
known_of s t g = known_by (guard_kind s g) (capped (plus (t g) (instructions 1)))

abbrev pub known_in : List ℕ → ℕ → Known
known_in w k = record { kind = cell w (guard_at + k); len = cell w (guard_len_at + k); emitted = cell w (guard_emitted_at + k) }

-- the guards of the first n blocks
pub record GuardsBy (s : List ℕ) (t : Rec) (w : List ℕ) (n : ℕ) : Type 0 where
  pub known : (k : ℕ) → k < n → known_in w k ≡ known_of s t (guard_of s k)
  pub node : (k : ℕ) → k < n → cell w (guard_node_at + k) ≡ guard_of s k

abbrev pub Guards : List ℕ → List ℕ → ℕ → Type 0
Guards s w n = GuardsBy s (tally max_depth s) w n

-- ---- the cases

-- the lists of the cases, and of those that are the first with theirs
abbrev pub case_keys : List ℕ → List (List ℕ)
case_keys s = map (case_key s) (take max_entries (cases_of s))

abbrev pub head_keys : List ℕ → List ℕ → List (List ℕ)
head_keys s w = map (case_key s) (column w head_node_at (cell w case_heads_at))

pub record CaseHeads (s w : List ℕ) : Type 0 where
  pub few : cell w case_heads_at ≤ max_entries
  pub heads : head_keys s w ≡ distinct (case_keys s)
  pub numbers : (i : ℕ) → i < min (case_count s) max_entries
      → cell w (case_number_at + i) ≡ number_in (case_key s (skip s i (first_case s))) (distinct (case_keys s))

-- ---- the ranges

-- the ranges that are read
abbrev pub ranges_read : List ℕ → List Range
ranges_read s = take max_entries (ranges_of s)

abbrev pub span_at : List ℕ → ℕ → Span
span_at w i = record { first = cell w (first_at + i); behind = cell w (behind_at + i); block = cell w (block_at + i) }

unfoldable pub spans_to : List ℕ → ℕ → List Span
spans_to w zero = []
spans_to w (suc n) = spans_to w n ++ (span_at w n ∷ [])

-- all of them
abbrev pub spans_in : List ℕ → List Span
spans_in w = spans_to w (cell w spans_at)

-- the list of piece p
abbrev pub piece_in : List ℕ → ℕ → List ℕ
piece_in w p = blocks_at p (spans_in w)

-- each range as an interval of the pieces between cuts
pub record Spanned (s w : List ℕ) : Type 0 where
  pub few : cell w spans_at ≤ max_entries
  pub spans : spans_in w ≡ map (span_of (cuts (ranges_read s))) (ranges_read s)

-- the words of the cuts
pub record CutWords (s w : List ℕ) : Type 0 where
  pub lows : (i : ℕ) → i < length (cuts (ranges_read s)) → cell w (low_at + i) ≡ low_word (cut_at (cuts (ranges_read s)) i)
  pub highs : (i : ℕ) → i < length (cuts (ranges_read s)) → cell w (high_at + i) ≡ high_word (cut_at (cuts (ranges_read s)) i)

-- the bands are the entries of the split
pub record BandsAre (s w : List ℕ) : Type 0 where
  pub few : cell w bands_at ≤ max_bands
  pub bands : map (entry_of (ranges_read s) (cuts (ranges_read s))) (bands_in w (cell w bands_at)) ≡ joined (ranges_read s) (cuts (ranges_read s))
  pub firsts : (i : ℕ) → i < cell w bands_at → cell w (band_first_at + i) < length (atoms (cuts (ranges_read s)))
  pub lasts : (i : ℕ) → i < cell w bands_at → cell w (band_last_at + i) < length (atoms (cuts (ranges_read s)))

-- and have their hashes
pub record BandsHashed (w : List ℕ) : Type 0 where
  pub hash_at : (i : ℕ) → i < cell w bands_at → cell w (band_hash_at + i) ≡ hash_of (piece_in w (cell w (band_first_at + i)))

-- the lists of the bands, and of those that are the first with theirs
abbrev pub band_keys : List ℕ → List (List ℕ)
band_keys w = map (piece_in w) (column w band_first_at (cell w bands_at))

abbrev pub band_head_keys : List ℕ → List (List ℕ)
band_head_keys w = map (piece_in w) (column w band_head_at (cell w band_heads_at))

pub record BandHeads (w : List ℕ) : Type 0 where
  pub few : cell w band_heads_at ≤ max_bands
  pub heads : band_head_keys w ≡ distinct (band_keys w)
  pub numbers : (i : ℕ) → i < cell w bands_at
      → cell w (band_number_at + i) ≡ number_in (piece_in w (cell w (band_first_at + i))) (distinct (band_keys w))
