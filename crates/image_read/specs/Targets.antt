-- The targets of rows. Cases (kind 0) and ranges (any other kind) are two pools; a table's rows are a part of one of them.
use Rattle.std.specs.Prelude.{ℕ, ◌+◌, ◌*◌, true, false, List, eqb}
use Rattle.lowering.specs.Limits.{case_width, range_width, range_target}
use Rattle.lowering.specs.Words.{word, cases_at, ranges_at}

-- where the target of the pool's first row stands, and how many words lie from one to the next
unfoldable pub targets_at : List ℕ → ℕ → ℕ
targets_at w kind = elim (eqb kind 0) [ true ↦ cases_at w | false ↦ ranges_at w + range_target ]

unfoldable pub apart : ℕ → ℕ
apart kind = elim (eqb kind 0) [ true ↦ case_width | false ↦ range_width ]

-- the target of row j of the pool
unfoldable pub target_of : List ℕ → ℕ → ℕ → ℕ
target_of w kind j = word w (targets_at w kind + apart kind * j)
