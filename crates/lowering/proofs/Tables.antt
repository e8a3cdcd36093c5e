-- The rows of each switch table exist, so that the run reads from the words the table's targets: row n, or the default past the rows.
use Prim.Native.Nat.{ℕ, zero, suc, ◌+◌, ◌≤◌, ◌<◌}
use mathlib.Core.Path.{◌≡◌, refl, sym, ap, ◌∙◌, subst}
use mathlib.Core.Bool.{Bool, true, false}
use mathlib.Core.List.{List, [], ◌∷◌, ◌++◌, map}
use native.Mathlib.Omega.{arith}
use borrow.Author.Tests.{ltb-true, ltb-false}
use lib.Dec.{eqb, ltb}
use lib.ListN.{length, get_or, take, drop, length-map, length-drop, get_or-append, get_or-map}
use lib.Seq.{length-take-le, get_or-take, get_or-drop}
use Rattle.bytecode.specs.declared.Switch.{Switch}
use Rattle.bytecode.specs.declared.SwitchCase.{SwitchCase}
use Rattle.bytecode.specs.declared.SwitchRange.{SwitchRange}
use Rattle.bytecode.specs.Switch.{switch_words, case_words, range_words}
use Rattle.lowering.specs.Program.{Program}
use Rattle.lowering.specs.Image.{words}
use Rattle.lowering.specs.Words.{switch_word, case_word, range_word}
use Rattle.lowering.specs.Run.{row_target, table_target}
use Rattle.lowering.specs.All.{All}
use Rattle.lowering.proofs.AllLaws.{all-at, all_from}
use Rattle.lowering.proofs.Whole.{no_switch, row_targets, targets_of}
use Rattle.lowering.proofs.Decode.{switch-word, case-word, range-word}

-- how many rows there are of cases, or of ranges
abbrev pub rows_of : Program → Bool → ℕ
rows_of r true = length r.cases
rows_of r false = length r.ranges

abbrev pub table_of : Program → ℕ → Switch
table_of r i = get_or r.switches i no_switch

-- the rows of table i exist
abbrev pub Fits : Program → ℕ → Type 0
Fits r i = (table_of r i).first + (table_of r i).rows ≤ rows_of r (eqb (table_of r i).ranged 0)

pub record TablesFit (r : Program) : Type 0 where
  pub fits : (i : ℕ) → i < length r.switches → Fits r i

-- a lookup past the end gives the last entry if that is the default
past_end : (xs : List ℕ) (d n : ℕ) → length xs ≤ n → get_or (xs ++ (d ∷ [])) n d ≡ d
past_end [] d zero h = refl
past_end [] d (suc n) h = refl
past_end (x ∷ xs) d zero h = omega arith
past_end (x ∷ xs) d (suc n) h = past_end xs d n (omega arith)

module _ {A : Type 0} (f : A → ℕ) (xs : List A) (first rows : ℕ) (h : first + rows ≤ length xs) where
  rows-length : length (map f (take rows (drop first xs))) ≡ rows
  rows-length =
      let e : rows ≤ length (drop first xs) = omega (arith, length-drop first xs) in
      length-map (take rows (drop first xs)) f ∙ length-take-le rows (drop first xs) e

  rows_at : (d : A) (n : ℕ) → n < rows → get_or (map f (take rows (drop first xs)) ++ (f d ∷ [])) n (f d) ≡ f (get_or xs (first + n) d)
  rows_at d n g =
      let l = take rows (drop first xs) in
      get_or-append (map f l) (f d ∷ []) (f d) n (omega (arith, rows-length))
      ∙ get_or-map f l n d
      ∙ ap f (get_or-take rows (drop first xs) n d g ∙ get_or-drop first xs n d)

-- the two kinds of rows
case-rows : (r : Program) (t : Switch) → eqb t.ranged 0 ≡ true
    → row_targets r t ≡ map (λ (c : SwitchCase). c.target) (take t.rows (drop t.first r.cases))
unfolding row_targets
case-rows r t h = rw (h, row_targets)

range-rows : (r : Program) (t : Switch) → eqb t.ranged 0 ≡ false
    → row_targets r t ≡ map (λ (c : SwitchRange). c.target) (take t.rows (drop t.first r.ranges))
unfolding row_targets
range-rows r t h = rw (h, row_targets)

case-row : (w : List ℕ) (i n : ℕ) → eqb (switch_word w i 0) 0 ≡ true → row_target w i n ≡ case_word w (switch_word w i 1 + n) 0
unfolding row_target
case-row w i n h = rw (h, row_target)

range-row : (w : List ℕ) (i n : ℕ) → eqb (switch_word w i 0) 0 ≡ false → row_target w i n ≡ range_word w (switch_word w i 1 + n) 5
unfolding row_target
range-row w i n h = rw (h, row_target)

in_table : (w : List ℕ) (i n : ℕ) → ltb n (switch_word w i 2) ≡ true → table_target w i n ≡ row_target w i n
unfolding table_target
in_table w i n h = rw (h, table_target)

past-table : (w : List ℕ) (i n : ℕ) → ltb n (switch_word w i 2) ≡ false → table_target w i n ≡ switch_word w i 3
unfolding table_target
past-table w i n h = rw (h, table_target)

-- the words of a table
table-words : (r : Program) (i : ℕ) → i < length r.switches
    → (switch_word (words r) i 0 ≡ (table_of r i).ranged) × (switch_word (words r) i 1 ≡ (table_of r i).first)
    × (switch_word (words r) i 2 ≡ (table_of r i).rows) × (switch_word (words r) i 3 ≡ (table_of r i).default)
unfolding switch_words
table-words r i h =
    let at-word = switch-word r no_switch i in
    (at-word 0 h (omega arith), at-word 1 h (omega arith), at-word 2 h (omega arith), at-word 3 h (omega arith))

-- target n of a table: of row n, or the default past the rows
abbrev target_at : Program → ℕ → ℕ → ℕ
target_at r i n = get_or (row_targets r (table_of r i) ++ ((table_of r i).default ∷ [])) n (table_of r i).default

module _ (r : Program) (F : TablesFit r) (i : ℕ) (h : i < length r.switches) where
  rows-fit : (c : Bool) → eqb (table_of r i).ranged 0 ≡ c → (table_of r i).first + (table_of r i).rows ≤ rows_of r c
  rows-fit c e = subst (λ (b : Bool). (table_of r i).first + (table_of r i).rows ≤ rows_of r b) e (F.fits i h)

  in-cases : (n : ℕ) → n < (table_of r i).rows → eqb (table_of r i).ranged 0 ≡ true → row_target (words r) i n ≡ target_at r i n
  unfolding case_words
  in-cases n g e =
      let t = table_of r i in
      let d : SwitchCase = record { target = t.default; constant = 0 } in
      let fit = rows-fit true e in
      case-row (words r) i n (ap (λ (k : ℕ). eqb k 0) (table-words r i h).0 ∙ e)
      ∙ ap (λ (k : ℕ). case_word (words r) (k + n) 0) (table-words r i h).1
      ∙ case-word r d (t.first + n) 0 (omega arith) (omega arith)
      ∙ sym (rows_at (λ (c : SwitchCase). c.target) r.cases t.first t.rows fit d n g)
      ∙ ap (λ (l : List ℕ). get_or (l ++ (t.default ∷ [])) n t.default) (sym (case-rows r t e))

  in-ranges : (n : ℕ) → n < (table_of r i).rows → eqb (table_of r i).ranged 0 ≡ false → row_target (words r) i n ≡ target_at r i n
  unfolding range_words
  in-ranges n g e =
      let t = table_of r i in
      let d : SwitchRange = record { from = 0; to = 0; inclusive = 0; target = t.default } in
      let fit = rows-fit false e in
      range-row (words r) i n (ap (λ (k : ℕ). eqb k 0) (table-words r i h).0 ∙ e)
      ∙ ap (λ (k : ℕ). range_word (words r) (k + n) 5) (table-words r i h).1
      ∙ range-word r d (t.first + n) 5 (omega arith) (omega arith)
      ∙ sym (rows_at (λ (c : SwitchRange). c.target) r.ranges t.first t.rows fit d n g)
      ∙ ap (λ (l : List ℕ). get_or (l ++ (t.default ∷ [])) n t.default) (sym (range-rows r t e))

  in_rows : (n : ℕ) → n < (table_of r i).rows → row_target (words r) i n ≡ target_at r i n
  in_rows n g = by (eqb (table_of r i).ranged 0) refl
    where
      by : (c : Bool) → eqb (table_of r i).ranged 0 ≡ c → row_target (words r) i n ≡ target_at r i n
      by true e = in-cases n g e
      by false e = in-ranges n g e

  -- as many targets as rows
  row-count : length (row_targets r (table_of r i)) ≡ (table_of r i).rows
  row-count = by (eqb (table_of r i).ranged 0) refl
    where
      by : (c : Bool) → eqb (table_of r i).ranged 0 ≡ c → length (row_targets r (table_of r i)) ≡ (table_of r i).rows
      by true e =
          let t = table_of r i in
          ap length (case-rows r t e) ∙ rows-length (λ (c : SwitchCase). c.target) r.cases t.first t.rows (rows-fit true e)
      by false e =
          let t = table_of r i in
          ap length (range-rows r t e) ∙ rows-length (λ (c : SwitchRange). c.target) r.ranges t.first t.rows (rows-fit false e)

  -- the way n of a table goes to its target n, any way past the rows to the default
  pub table-target : (n : ℕ) → table_target (words r) i n ≡ get_or (targets_of r i) n (table_of r i).default
  unfolding targets_of
  table-target n = by (ltb n (table_of r i).rows) refl
    where
      by : (c : Bool) → ltb n (table_of r i).rows ≡ c → table_target (words r) i n ≡ target_at r i n
      by true e = in_table (words r) i n (ap (ltb n) (table-words r i h).2 ∙ e) ∙ in_rows n (ltb-true n (table_of r i).rows e)
      by false e =
          let t = table_of r i in
          past-table (words r) i n (ap (ltb n) (table-words r i h).2 ∙ e)
          ∙ (table-words r i h).3
          ∙ sym (past_end (row_targets r t) t.default n (omega (arith, row-count, ltb-false n t.rows e)))

  -- a fact of all targets holds where each way goes, and the other way round
  pub table-all : (P : ℕ → Type 0) → All P (targets_of r i) → (n : ℕ) → P (table_target (words r) i n)
  unfolding targets_of
  table-all P k n = subst P (sym (table-target n)) (all-at P (row_targets r (table_of r i)) (table_of r i).default k n)

  pub all-table : (P : ℕ → Type 0) → ((n : ℕ) → P (table_target (words r) i n)) → All P (targets_of r i)
  all-table P k = all_from P (targets_of r i) (table_of r i).default (λ n. subst P (table-target n) (k n))
