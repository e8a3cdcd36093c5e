-- The places of the constants of the Cases, in the flat table.
use Rattle.std.specs.Prelude.{◌≡◌, ℕ, ◌+◌, ◌<◌, List, take}
use Rattle.sheet.specs.Node.{child}
use Rattle.sheet.specs.Walk.{skip}
use Rattle.check_switches.specs.Switch.{case_count, first_case}
use Rattle.lowering.specs.Pools.{const_of, const_at}
use Rattle.lowering.specs.SwitchSheet.{cases_of}
use Rattle.lowering.specs.SwitchTables.{case_pools}
use Rattle.expr_model.specs.Made.{Made}
use Rattle.switch_tables.specs.Columns.{cell, case_const_at}

-- of each case, where its constant stands once those of the cases before it are in the pools of a, as it stands in its row
pub record ConstsAt (s w : List ℕ) (a : Made) : Type 0 where
  pub each : (i : ℕ) → i < case_count s
      → cell w (case_const_at + i) ≡ const_at s (const_of s (child (skip s i (first_case s)))) (case_pools s (take i (cases_of s)) a.pools)
