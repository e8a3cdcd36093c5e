-- The ranges that are read, and what the passes over them leave: the words of the cuts in the table, and marks of the pieces where a range
-- starts or ends. Definitions; assume nothing.
use Rattle.std.specs.Prelude.{ℕ, ◌+◌, ◌<◌, ◌≡◌, List, min, eqb, length, get_or, set}
use Rattle.sheet.specs.Limits.{max_entries}
use Rattle.sheet.specs.Walk.{skip}
use Rattle.check_switches.specs.Switch.{case_count, range_count, first_case}
use Rattle.switch_split.specs.Excess.{low_word, high_word}
use Rattle.switch_split.specs.Piece.{cut_at}
use Rattle.switch_tables.specs.Columns.{first_at, behind_at, block_at, low_at, high_at, cell}
use Rattle.switch_tables.specs.Spans.{Span, changes_at}

-- the ranges that are read are n, from node `first` on
pub record AreRead (s : List ℕ) (first n : ℕ) : Type 0 where
  pub start : first ≡ skip s (case_count s) (first_case s)
  pub count : n ≡ min (range_count s) max_entries

-- the cuts cs stand in the table w as words
pub record Cuts (cs w : List ℕ) : Type 0 where
  pub lows : (i : ℕ) → i < length cs → cell w (low_at + i) ≡ low_word (cut_at cs i)
  pub highs : (i : ℕ) → i < length cs → cell w (high_at + i) ≡ high_word (cut_at cs i)

-- the marks of the spans xs: piece j has a 1 where one of them starts or ends
pub record Marked (m : List ℕ) (xs : List Span) : Type 0 where
  pub marks : (j : ℕ) → j < length m → eqb (get_or m j 0) 1 ≡ changes_at j xs

-- range i of the table is the span x
unfoldable pub with_span : List ℕ → ℕ → Span → List ℕ
with_span w i x = set (set (set w (first_at + i) x.first) (behind_at + i) x.behind) (block_at + i) x.block

-- the pieces where the span x starts and ends are marked
unfoldable pub with_marks : List ℕ → Span → List ℕ
with_marks m x = set (set m x.first 1) x.behind 1
