-- What a count of a switch leaves, where t is the tally of a node: its total, the table as it was read, and where the parts stand, if the
-- switch has a place for each.
use Rattle.std.specs.Prelude.{ℕ, ◌≤◌, ◌≡◌, List}
use Rattle.lowering.specs.Limits.{max_emitted}
use Rattle.expr_count.specs.declared.tallies.Tally.{Tally}
use Rattle.expr_count.specs.Tally.{taken_back, capped}
use Rattle.expr_count.specs.Count.{Rec}
use Rattle.switch_count.specs.Total.{switch_tally}
use Rattle.switch_tables.specs.Planned.{TablesBy, PlacedBy, entries}

pub record Counted (s : List ℕ) (t : Rec) (w : List ℕ) (r : Tally) : Type 0 where
  pub total : taken_back r ≡ capped (taken_back (switch_tally s t (entries s)))
  pub tables : TablesBy s t w
  pub placed : (switch_tally s t (entries s)).len ≤ max_emitted → PlacedBy s t w
