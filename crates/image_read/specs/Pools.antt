-- The two pools of rows: cases, and ranges.
use Rattle.std.specs.Prelude.{ℕ, true, false, eqb}
use Rattle.image_read.specs.declared.Rows.{Rows}
use Rattle.image_read.specs.declared.Rows.TheVariants.{Cases, Ranges}

-- the number of a pool, as tables name it
unfoldable pub kind_of : Rows → ℕ
kind_of Cases = 0
kind_of Ranges = 1

-- the pool that a number names
unfoldable pub rows_of : ℕ → Rows
rows_of kind = elim (eqb kind 0) [ true ↦ Cases | false ↦ Ranges ]

-- how many rows stand before those of a kind, where the cases come first and n is how many they are
unfoldable pub rows_before : ℕ → ℕ → ℕ
rows_before kind n = elim (eqb kind 0) [ true ↦ 0 | false ↦ n ]
