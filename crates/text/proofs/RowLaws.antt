-- The row of a first byte, by the ranges of the table.
use Prim.Native.Nat.{ℕ, ◌≤◌, ◌<◌}
use mathlib.Core.Path.{◌≡◌, refl, ap, sym, ◌∙◌}
use mathlib.Core.List.{List, [], ◌∷◌, ◌++◌}
use native.Mathlib.Omega.{arith}
use lib.ListN.{take, drop}
use borrow.Author.Tests.{le-leb, lt-leb}
use Rattle.text.specs.Utf8.{Row, row, rows, row_in, row_of}
use Rattle.text.specs.Leads.{Leads}

abbrev Below : ℕ → List Row → Type 0
Below b [] = Unit {0}
Below b (r ∷ rs) = (r.last < b) × Below b rs

-- rows that end before b are passed over
pass : (rs ps : List Row) (b : ℕ) → Below b rs → row_in (rs ++ ps) b ≡ row_in ps b
unfolding row_in
pass [] ps b h = refl
pass (r ∷ rs) ps b h = rw (lt-leb b r.last h.0, row_in) (pass rs ps b h.1)

-- the first row that does not end before b is b's
here : (rs : List Row) (r : Row) (ps : List Row) (b : ℕ) → Below b rs → b ≤ r.last → row_in (rs ++ (r ∷ ps)) b ≡ r
unfolding row_in
here rs r ps b h l = pass rs (r ∷ ps) b h ∙ rw (le-leb b r.last l, row_in)

-- each row has the bytes after the row before it
pub row-7F : (b : ℕ) → b ≤ 0x7F → row_of b ≡ row 0x7F 0 0x80 0xBF
unfolding row_of
row-7F b l = here [] (row 0x7F 0 0x80 0xBF) (drop 1 rows) b tt l

pub row-C1 : (b : ℕ) → 0x7F < b → b ≤ 0xC1 → row_of b ≡ row 0xC1 1 0xBF 0x80
unfolding row_of
row-C1 b h l = here (take 1 rows) (row 0xC1 1 0xBF 0x80) (drop 2 rows) b (omega arith) l

pub row-DF : (b : ℕ) → 0xC1 < b → b ≤ 0xDF → row_of b ≡ row 0xDF 1 0x80 0xBF
unfolding row_of
row-DF b h l = here (take 2 rows) (row 0xDF 1 0x80 0xBF) (drop 3 rows) b (omega arith) l

pub row-E0 : (b : ℕ) → 0xDF < b → b ≤ 0xE0 → row_of b ≡ row 0xE0 2 0xA0 0xBF
unfolding row_of
row-E0 b h l = here (take 3 rows) (row 0xE0 2 0xA0 0xBF) (drop 4 rows) b (omega arith) l

pub row-EC : (b : ℕ) → 0xE0 < b → b ≤ 0xEC → row_of b ≡ row 0xEC 2 0x80 0xBF
unfolding row_of
row-EC b h l = here (take 4 rows) (row 0xEC 2 0x80 0xBF) (drop 5 rows) b (omega arith) l

pub row-ED : (b : ℕ) → 0xEC < b → b ≤ 0xED → row_of b ≡ row 0xED 2 0x80 0x9F
unfolding row_of
row-ED b h l = here (take 5 rows) (row 0xED 2 0x80 0x9F) (drop 6 rows) b (omega arith) l

pub row-EF : (b : ℕ) → 0xED < b → b ≤ 0xEF → row_of b ≡ row 0xEF 2 0x80 0xBF
unfolding row_of
row-EF b h l = here (take 6 rows) (row 0xEF 2 0x80 0xBF) (drop 7 rows) b (omega arith) l

pub row-F0 : (b : ℕ) → 0xEF < b → b ≤ 0xF0 → row_of b ≡ row 0xF0 3 0x90 0xBF
unfolding row_of
row-F0 b h l = here (take 7 rows) (row 0xF0 3 0x90 0xBF) (drop 8 rows) b (omega arith) l

pub row-F3 : (b : ℕ) → 0xF0 < b → b ≤ 0xF3 → row_of b ≡ row 0xF3 3 0x80 0xBF
unfolding row_of
row-F3 b h l = here (take 8 rows) (row 0xF3 3 0x80 0xBF) (drop 9 rows) b (omega arith) l

pub row-F4 : (b : ℕ) → 0xF3 < b → b ≤ 0xF4 → row_of b ≡ row 0xF4 3 0x80 0x8F
unfolding row_of
row-F4 b h l = here (take 9 rows) (row 0xF4 3 0x80 0x8F) (drop 10 rows) b (omega arith) l

pub row_last : (b : ℕ) → 0xF4 < b → row_of b ≡ row b 1 0xBF 0x80
unfolding row_of row_in
row_last b h = pass rows [] b (omega arith)

pub leads : {b : ℕ} {r : Row} → row_of b ≡ r → Leads b r.tails r.low r.high
leads e = record { tails = ap (λ q. q.tails) (sym e); least = ap (λ q. q.low) (sym e); greatest = ap (λ q. q.high) (sym e) }
