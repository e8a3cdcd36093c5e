-- The rows of a switch's tables by their numbers, read from the flat table. Definitions; assume nothing.
use Rattle.std.specs.Prelude.{ℕ, zero, suc, ◌+◌, ◌-◌, ◌/◌, ◌%◌, min, true, false, List, [], ◌∷◌, ◌++◌, eqb, ltb}
use Rattle.bytecode.specs.declared.Switch.{Switch}
use Rattle.switch_tables.specs.Columns.{case_number_at, low_at, high_at, band_first_at, band_last_at, band_number_at, band_place_at, band_exit_at}
use Rattle.switch_tables.specs.Columns.{case_place_at}
use Rattle.switch_tables.specs.Columns.{case_exit_at, body_at, default_at, fallback_at, case_const_at, cell}

-- the words of rows 0, .., n - 1
unfoldable pub rows_to : (ℕ → List ℕ) → ℕ → List ℕ
rows_to f zero = []
rows_to f (suc n) = rows_to f n ++ f n

abbrev pub table : ℕ → ℕ → ℕ → Switch
table ranged rows default = record { ranged = ranged; first = 0; rows = rows; default = default }

-- the table of n ranges, if there are any
unfoldable pub ranges_if : ℕ → ℕ → List Switch
ranges_if zero default = []
ranges_if (suc n) default = table 1 (suc n) default ∷ []

-- the tables of n cases and m ranges
abbrev pub tables_of : ℕ → ℕ → ℕ → ℕ → List Switch
tables_of n fallback m default = table 0 n fallback ∷ ranges_if m default

-- how many they are
abbrev pub table_count : ℕ → ℕ
table_count m = 1 + min m 1

-- where a list goes, by its exit: to its chain at `place`, to the fallback, or to the body of a block
unfoldable pub target_in : List ℕ → ℕ → ℕ → ℕ → ℕ
target_in w exit place fallback =
    elim (ltb exit 2) [
      | true ↦ place
      | false ↦ elim (eqb exit 2) [ true ↦ fallback | false ↦ cell w (body_at + exit - 3) ]
    ]

-- the target of the list whose number q stands in a cell, by two columns
unfoldable pub target_at : List ℕ → ℕ → ℕ → ℕ → ℕ → ℕ
target_at w number exits places fallback =
    let q = cell w number in
    target_in w (cell w (exits + q)) (cell w (places + q)) (cell w fallback)

-- of case i, and of band i
abbrev pub case_target_in : List ℕ → ℕ → ℕ
case_target_in w i = target_at w (case_number_at + i) case_exit_at case_place_at fallback_at

abbrev pub band_target_in : List ℕ → ℕ → ℕ
band_target_in w i = target_at w (band_number_at + i) band_exit_at band_place_at default_at

-- the words of case i
unfoldable pub case_words_in : List ℕ → ℕ → List ℕ
case_words_in w i = case_target_in w i ∷ cell w (case_const_at + i) ∷ []

-- the words of band i: its two cuts, whether it is closed, its target
unfoldable pub range_words_in : List ℕ → ℕ → List ℕ
range_words_in w i =
    let from = cell w (band_first_at + i) / 2 in
    let last = cell w (band_last_at + i) in
    let to = last / 2 + last % 2 in
    cell w (low_at + from)
    ∷ cell w (high_at + from)
    ∷ cell w (low_at + to)
    ∷ cell w (high_at + to)
    ∷ (1 - last % 2)
    ∷ band_target_in w i
    ∷ []
