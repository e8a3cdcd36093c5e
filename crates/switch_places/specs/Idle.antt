-- Whether the last chain of many ends with a jump to the fallback, and what stands behind the chains of the cases then.
use Rattle.std.specs.Prelude.{ℕ, ◌-◌, ◌+◌, ◌<◌, ◌≤◌, ◌≡◌, Bool, true, false, List, [], ◌∷◌, length, get_or, set}
use Rattle.lowering.specs.Arms.{End, taken, declined, idle}
use Rattle.sheet.specs.Limits.{max_entries}
use Rattle.expr_count.specs.declared.tallies.Tally.{Tally}
use Rattle.expr_count.specs.Tally.{counted, instructions, plus, capped}
use Rattle.switch_count.specs.Arms.{end_of, has_try}
use Rattle.switch_tables.specs.Columns.{cell, case_heads_at, case_exit_at, dispatch_at}
use Rattle.switch_tables.specs.Spans.{one_if}
use Rattle.switch_tables.specs.Planned.{exit_of}
use Rattle.switch_places.specs.Finished.{if_none}

-- a list without a chain leaves what was before
unfoldable pub idle_by : Bool → End → Bool → Bool
idle_by true (taken k) before = false
idle_by true declined before = true
idle_by true idle before = true
idle_by false e before = before

unfoldable pub idles_from : List ℕ → Bool → List (List ℕ) → Bool
idles_from s before [] = before
idles_from s before (l ∷ ls) = idles_from s (idle_by (has_try s l) (end_of s l) before) ls

-- the table has where the lists ls go
pub record Exits (s w : List ℕ) (ls : List (List ℕ)) : Type 0 where
  pub count : cell w case_heads_at ≡ length ls
  pub few : length ls ≤ max_entries
  pub exit : (q : ℕ) → q < length ls → cell w (case_exit_at + q) ≡ exit_of s (get_or ls q [])

-- the second Switch stands behind n instructions, where there are bands; the last of them is dropped, if it is a jump there
abbrev pub second_at : ℕ → Bool → ℕ → ℕ
second_at bands drops n = if_none bands n (n - one_if drops)

-- what is counted then
abbrev pub second_tally : ℕ → Bool → Tally → Tally
second_tally bands drops b = if_none bands b (capped (plus (counted (b.len - one_if drops) b.emitted b.defeated) (instructions 1)))

-- the second Switch stands behind b: from the table w to v, and r is counted
pub record Second (bands : ℕ) (drops : Bool) (b : Tally) (w v : List ℕ) (r : Tally) : Type 0 where
  pub put : v ≡ set w dispatch_at (second_at bands drops b.len)
  pub sum : r ≡ second_tally bands drops b
