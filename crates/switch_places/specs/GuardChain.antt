-- One chain: what a pass reads for it, and what it leaves; t is the tally of a node.
use Rattle.std.specs.Prelude.{ℕ, ◌+◌, ◌<◌, ◌≤◌, ◌≡◌, Bool, true, false, ◌||◌, Option, None, Some, List, length, get_or}
use Rattle.sheet.specs.Limits.{max_entries}
use Rattle.lowering.specs.SwitchSheet.{block_count}
use Rattle.expr_count.specs.declared.tallies.Tally.{Tally}
use Rattle.expr_count.specs.Tally.{nothing, plus, capped}
use Rattle.expr_count.specs.Count.{Rec}
use Rattle.switch_count.specs.Arms.{wants, arm_tally}
use Rattle.switch_tables.specs.Columns.{size, wanted_at, case_place_at, cell, Within}
use Rattle.switch_tables.specs.Table.{GuardsBy}
use Rattle.switch_tables.specs.Planned.{exit_of, want_in}

-- of two the first, if yes
unfoldable pub either : {A : Type 0} → Bool → A → A → A
either true a b = a
either false a b = b

-- what the guards of a list that were tried add, and whether one was
unfoldable pub sum_in : Option Tally → Tally
sum_in None = nothing
sum_in (Some sum) = sum

unfoldable pub tries_in : Option Tally → Bool
tries_in None = false
tries_in (Some sum) = true

-- the table w has the guards of s, and a is the list l of its blocks
pub record Reads (s : List ℕ) (t : Rec) (w a l : List ℕ) : Type 0 where
  pub few : block_count s ≤ max_entries
  pub guards : GuardsBy s t w (block_count s)
  pub listed : a ≡ l
  pub named : (i : ℕ) → i < length l → get_or l i 0 < block_count s

-- the chain of l is counted, from the table w to v: what it adds, and where l goes
pub record ChainOf (s : List ℕ) (t : Rec) (l w v : List ℕ) (sum : Tally) (exit : ℕ) : Type 0 where
  pub sum_is : sum ≡ capped (arm_tally s t l)
  pub exit_is : exit ≡ exit_of s l
  pub wanted : (k : ℕ) → k < block_count s → want_in v k ≡ (want_in w k || wants s k l)
  pub within : Within wanted_at case_place_at w v

-- two cells of the table, not among those of the wanted blocks
pub record Cells (place exit : ℕ) : Type 0 where
  pub place_in : place < size
  pub exit_in : exit < size
  pub apart : place ≡ exit → ⊥
  pub place_clear : (k : ℕ) → k < max_entries → wanted_at + k ≡ place → ⊥
  pub exit_clear : (k : ℕ) → k < max_entries → wanted_at + k ≡ exit → ⊥

-- the chain of l stands behind b: r is the sum, and these cells have its place and its exit
pub record LaidOne (s : List ℕ) (t : Rec) (l : List ℕ) (place exit : ℕ) (b : Tally) (w v : List ℕ) (r : Tally) : Type 0 where
  pub sum_is : r ≡ capped (plus b (arm_tally s t l))
  pub place_is : cell v place ≡ b.len
  pub exit_is : cell v exit ≡ exit_of s l
  pub wanted : (k : ℕ) → k < block_count s → want_in v k ≡ (want_in w k || wants s k l)
  pub kept : (i : ℕ) → ((k : ℕ) → k < max_entries → wanted_at + k ≡ i → ⊥) → (i ≡ place → ⊥) → (i ≡ exit → ⊥) → cell v i ≡ cell w i
