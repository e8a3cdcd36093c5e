-- Refusal 5: depth of the tree above its limit. Node 0 is at depth 1, and each child one below its parent. Said of what reads the fields
-- of nodes, and then of a sheet.
use Rattle.std.specs.Prelude.{ℕ, zero, suc, Bool, false, List}
use Rattle.sheet.specs.Limits.{max_depth}
use Rattle.sheet.specs.Node.{Fields, count_at, field, child}
use Rattle.sheet.specs.Walk.{siblings_by}

-- the subtree of n has at most so many levels
unfoldable pub within_by : ℕ → Fields → ℕ → Bool
within_by zero g n = false
within_by (suc left) g n = siblings_by (within_by left g) g (g n count_at) (child n)

-- nothing of refusal 5
unfoldable pub depth_by : Fields → Bool
depth_by g = within_by max_depth g 0

-- ---- of a sheet

-- the subtree of n has at most so many levels
abbrev pub within : ℕ → List ℕ → ℕ → Bool
within left s = within_by left (field s)

-- nothing of refusal 5
abbrev pub depth_ok : List ℕ → Bool
depth_ok s = depth_by (field s)
