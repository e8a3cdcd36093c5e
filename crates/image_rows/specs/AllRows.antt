-- The rows of all tables as one list: the cases, and behind them the ranges.
use Rattle.std.specs.Prelude.{ℕ, zero, suc, ◌+◌, ◌*◌, ◌-◌, ◌≤◌, true, false, List, eqb, ltb}
use Rattle.lowering.specs.Limits.{case_width, range_width, range_target}
use Rattle.lowering.specs.Words.{word, cases_at, ranges_at, switch_word}
use Rattle.image_rule.specs.Rules.{cases, ranges, rows_there}

-- the target of row q, 0 past the last
unfoldable pub row_of : List ℕ → ℕ → ℕ
row_of w q =
    elim (ltb q (cases w)) [
      | true ↦ word w (cases_at w + case_width * q)
      | false ↦ elim (ltb (q - cases w) (ranges w)) [ true ↦ word w (ranges_at w + (range_width * (q - cases w) + range_target)) | false ↦ 0 ]
    ]

-- the first row of table i
unfoldable pub first_row : List ℕ → ℕ → ℕ
first_row w i = elim (eqb (switch_word w i 0) 0) [ true ↦ switch_word w i 1 | false ↦ cases w + switch_word w i 1 ]

-- the rows of table i lie in their pool
abbrev pub Pooled : List ℕ → ℕ → Type 0
Pooled w i = switch_word w i 1 + switch_word w i 2 ≤ rows_there w (switch_word w i 0)

-- how many rows before row q, one after another, have one mark: f q is the mark that row q leads to
unfoldable pub mark_before : (ℕ → ℕ) → ℕ → ℕ
mark_before f zero = 0
mark_before f (suc q) = f q

unfoldable pub run_before : (ℕ → ℕ) → ℕ → ℕ
run_before f zero = 0
run_before f (suc q) = elim (eqb (f q) (mark_before f q)) [ true ↦ suc (run_before f q) | false ↦ 1 ]
