-- Switch: laid out, written, and its tables filled.
use Rattle.std.specs.Prelude.{ℕ, List, ◌∷◌}
use Rattle.lowering.specs.Pools.{emits}
use Rattle.lowering.specs.Out.{Rec}
use Rattle.lowering.specs.SwitchSheet.{default_block, cases_of}
use Rattle.lowering.specs.SwitchLaid.{SwitchLaid, layout}
use Rattle.lowering.specs.SwitchCode.{default_at, fallback_at, switch_code, last_emits}
use Rattle.lowering.specs.SwitchTables.{case_pools, case_rows, range_rows, case_table, range_table}
use Rattle.lowering.specs.Program.{Program}

-- the program of a layout, with the default block plus 1, or 0
unfoldable pub switch_of : List ℕ → ℕ → SwitchLaid → Program
switch_of s def l =
    let p = emits (last_emits def) l.pools in
    let default = default_at def l in
    let fallback = fallback_at def l.splits l in
    record {
      code = switch_code def l;
      pools = case_pools s (cases_of s) p;
      switches = case_table fallback (cases_of s) ∷ range_table default l.splits;
      cases = case_rows s l fallback (cases_of s) p;
      ranges = range_rows l default l.splits;
    }

unfoldable pub switch : List ℕ → Rec → Program
switch s rec = switch_of s (default_block s) (layout s rec)
