-- Words of tables and rows, read by where their sections start.
use Prim.Native.Nat.{ℕ, ◌+◌, ◌*◌, ◌-◌, ◌≤◌, ◌<◌}
use mathlib.Core.Path.{◌≡◌, refl, sym, ap, ◌∙◌}
use mathlib.Core.Bool.{Bool, true, false}
use mathlib.Core.List.{List}
use native.Mathlib.Omega.{arith}
use lib.Dec.{eqb}
use borrow.Author.Tests.{lt-ltb, le-ltb}
use Rattle.lowering.specs.Limits.{case_width, range_width, range_target}
use Rattle.lowering.specs.Words.{word, cases_at, ranges_at, switch_word, case_word, range_word}
use Rattle.lowering.specs.Run.{row_target}
use Rattle.image_rule.specs.Rules.{cases, ranges, rows_there}
use Rattle.image_read.specs.Pools.{kind_of, rows_of, rows_before}
use Rattle.image_read.specs.declared.Rows.{Rows}
use Rattle.image_rows.specs.AllRows.{row_of, first_row, Pooled}

-- row q, by the section that it lies in
is-case : (w : List ℕ) (q : ℕ) → q < cases w → row_of w q ≡ word w (cases_at w + case_width * q)
unfolding row_of
is-case w q h = rw (lt-ltb q (cases w) h, row_of)

is-range : (w : List ℕ) (q : ℕ) → cases w ≤ q → q - cases w < ranges w
    → row_of w q ≡ word w (ranges_at w + (range_width * (q - cases w) + range_target))
unfolding row_of
is-range w q a b = rw (le-ltb q (cases w) a, lt-ltb (q - cases w) (ranges w) b, row_of)

is_none : (w : List ℕ) (q : ℕ) → cases w ≤ q → ranges w ≤ q - cases w → row_of w q ≡ 0
unfolding row_of
is_none w q a b = rw (le-ltb q (cases w) a, le-ltb (q - cases w) (ranges w) b, row_of)

-- the same for the target that was read, where the section starts at `at`
pub row-case : (w : List ℕ) (q n x at : ℕ) → n ≡ cases w → at ≡ cases_at w → q < n → x ≡ word w (at + case_width * q) → x ≡ row_of w q
row-case w q n x at c p h e = e ∙ ap (λ k. word w (k + case_width * q)) p ∙ sym (is-case w q (omega arith))

pub row-range : (w : List ℕ) (q n m x at : ℕ) → n ≡ cases w → m ≡ ranges w → at ≡ ranges_at w → n ≤ q → q - n < m
    → x ≡ word w (at + (range_width * (q - n) + range_target)) → x ≡ row_of w q
row-range w q n m x at c d p h g e =
    let same : at + (range_width * (q - n) + range_target) ≡ ranges_at w + (range_width * (q - cases w) + range_target) =
    omega (arith, c, p) in
    e ∙ ap (word w) same ∙ sym (is-range w q (omega arith) (omega arith))

pub row-none : (w : List ℕ) (q n m : ℕ) → n ≡ cases w → m ≡ ranges w → n ≤ q → m ≤ q - n → 0 ≡ row_of w q
row-none w q n m c d h g = sym (is_none w q (omega arith) (omega arith))

-- the first row of a table, from the words that were read, with `a` rows before those of its pool
pub first-read : (w : List ℕ) (i kind x n a : ℕ) (pool : Rows) → kind ≡ switch_word w i 0 → pool ≡ rows_of kind → n ≡ cases w
    → a ≡ rows_before (kind_of pool) n → x ≡ switch_word w i 1 → a + x ≡ first_row w i
unfolding first_row rows_of rows_before kind_of
first-read w i kind x n a pool k p c h e =
    omega (
      arith,
      h ∙ ap (λ q. rows_before (kind_of q) n) (p ∙ ap rows_of k) ∙ ap (rows_before (kind_of (rows_of (switch_word w i 0)))) c,
      e,
      by (eqb (switch_word w i 0) 0) refl,
    )
  where
    by : (b : Bool) → eqb (switch_word w i 0) 0 ≡ b
        → rows_before (kind_of (rows_of (switch_word w i 0))) (cases w) + switch_word w i 1 ≡ first_row w i
    by true q = rw (q, rows_of, rows_before, first_row) (omega arith)
    by false q = rw (q, rows_of, rows_before, first_row) refl

-- a table's rows are rows of the list
target-case : (w : List ℕ) (i r : ℕ) → eqb (switch_word w i 0) 0 ≡ true
    → row_target w i r ≡ word w (cases_at w + case_width * (switch_word w i 1 + r))
unfolding row_target case_word
target-case w i r e =
    let same : cases_at w + case_width * (switch_word w i 1 + r) + 0 ≡ cases_at w + case_width * (switch_word w i 1 + r) = omega arith in
    rw (e, row_target) (ap (word w) same)

target-range : (w : List ℕ) (i r : ℕ) → eqb (switch_word w i 0) 0 ≡ false
    → row_target w i r ≡ word w (ranges_at w + (range_width * (switch_word w i 1 + r) + range_target))
unfolding row_target range_word
target-range w i r e =
    let same : ranges_at w + range_width * (switch_word w i 1 + r) + range_target
    ≡ ranges_at w + (range_width * (switch_word w i 1 + r) + range_target) =
    omega arith in
    rw (e, row_target) (ap (word w) same)

-- row r of table i is row r of the list from its first one on
pub row-of : (w : List ℕ) (i r : ℕ) → Pooled w i → r < switch_word w i 2 → row_target w i r ≡ row_of w (first_row w i + r)
unfolding rows_there first_row
row-of w i r P h = by (eqb (switch_word w i 0) 0) refl
  where
    by : (b : Bool) → eqb (switch_word w i 0) 0 ≡ b → row_target w i r ≡ row_of w (first_row w i + r)
    by true e =
        let q = switch_word w i 1 + r in
        let first : first_row w i ≡ switch_word w i 1 = rw (e, first_row) in
        let pool : rows_there w (switch_word w i 0) ≡ cases w = rw (e, rows_there) in
        target-case w i r e ∙ sym (is-case w q (omega (arith, P, pool))) ∙ ap (λ (x : ℕ). row_of w (x + r)) (sym first)
    by false e =
        let q = cases w + switch_word w i 1 + r in
        let first : first_row w i ≡ cases w + switch_word w i 1 = rw (e, first_row) in
        let pool : rows_there w (switch_word w i 0) ≡ ranges w = rw (e, rows_there) in
        let same : ranges_at w + (range_width * (switch_word w i 1 + r) + range_target)
        ≡ ranges_at w + (range_width * (q - cases w) + range_target) =
        omega arith in
        target-range w i r e ∙ ap (word w) same
        ∙ sym (is-range w q (omega arith) (omega (arith, P, pool))) ∙ ap (λ (x : ℕ). row_of w (x + r)) (sym first)

-- they end inside the list
pub pooled-inside : (w : List ℕ) (i : ℕ) → Pooled w i → first_row w i + switch_word w i 2 ≤ cases w + ranges w
unfolding rows_there first_row
pooled-inside w i P = by (eqb (switch_word w i 0) 0) refl
  where
    by : (b : Bool) → eqb (switch_word w i 0) 0 ≡ b → first_row w i + switch_word w i 2 ≤ cases w + ranges w
    by true e =
        let first : first_row w i ≡ switch_word w i 1 = rw (e, first_row) in
        let pool : rows_there w (switch_word w i 0) ≡ cases w = rw (e, rows_there) in
        omega (arith, P)
    by false e =
        let first : first_row w i ≡ cases w + switch_word w i 1 = rw (e, first_row) in
        let pool : rows_there w (switch_word w i 0) ≡ ranges w = rw (e, rows_there) in
        omega (arith, P)
