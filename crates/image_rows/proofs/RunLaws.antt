-- Runs of rows that lead to one mark, counted from the front, tell whether the rows of a table do.
use Prim.Native.Nat.{ℕ, zero, suc, ◌+◌, ◌-◌, ◌≤◌, ◌<◌, min}
use mathlib.Core.Path.{◌≡◌, refl, sym, ap, ◌∙◌, subst}
use mathlib.Core.Bool.{Bool, true, false, ◌&&◌, and-eq-true_iff}
use mathlib.Core.List.{List}
use native.Mathlib.Omega.{arith}
use native.Mathlib.Numerals.{add-one}
use lib.Dec.{eqb, leb}
use lib.ListN.{length, set}
use lib.Seq.{get_or-set_same, get_or-set_other}
use borrow.Author.Tests.{eq-eqb, ne_eqb, eqb-true, eqb-false, le-leb, leb-true}
use Rattle.laws.proofs.Bool.{both_ways}
use Rattle.words.specs.Count.{all_below}
use Rattle.words.proofs.CountLaws.{all-at, all_of, all_same}
use Rattle.lowering.specs.Words.{word, switch_word}
use Rattle.lowering.specs.Run.{row_target}
use Rattle.image_rule.specs.Rules.{cases, ranges}
use Rattle.image_rule.specs.Marks.{mark}
use Rattle.image_rows.specs.AllRows.{row_of, first_row, Pooled, mark_before, run_before}
use Rattle.image_rows.specs.Scratch.{row_mark, Runs, Counted}
use Rattle.image_rows.proofs.ReadLaws.{row-of, pooled-inside}

module _ (f : ℕ → ℕ) where
  -- a row with the mark before it makes the run longer
  run-same : (q : ℕ) → f q ≡ mark_before f q → run_before f (suc q) ≡ suc (run_before f q)
  unfolding run_before
  run-same q e = rw (eq-eqb (f q) (mark_before f q) e, run_before)

  -- any other row starts one
  run-other : (q : ℕ) → (f q ≡ mark_before f q → ⊥) → run_before f (suc q) ≡ 1
  unfolding run_before
  run-other q e = rw (ne_eqb (f q) (mark_before f q) e, run_before)

  -- a row is in a run
  run-some : (q : ℕ) → 1 ≤ run_before f (suc q)
  run-some q = by (eqb (f q) (mark_before f q)) refl
    where
      by : (t : Bool) → eqb (f q) (mark_before f q) ≡ t → 1 ≤ run_before f (suc q)
      by true e = omega (arith, run-same q (eqb-true (f q) (mark_before f q) e))
      by false e = omega (arith, run-other q (eqb-false (f q) (mark_before f q) e))

  -- the rows of a run have one mark
  run-alike : (q j : ℕ) → j ≤ q → q < j + run_before f (suc q) → f j ≡ f q
  unfolding mark_before
  run-alike zero j a b = let e : j ≡ 0 = omega arith in ap f e
  run-alike (suc q) j a b = by (run-alike q) (eqb j (suc q)) refl (eqb (f (suc q)) (f q)) refl
    where
      by : ((j : ℕ) → j ≤ q → q < j + run_before f (suc q) → f j ≡ f q) → (s : Bool) → eqb j (suc q) ≡ s → (t : Bool)
          → eqb (f (suc q)) (f q) ≡ t → f j ≡ f (suc q)
      by before true d t e = ap f (eqb-true j (suc q) d)
      by before false d true e =
          let n = eqb-false j (suc q) d in
          let same = eqb-true (f (suc q)) (f q) e in
          let less : j ≤ q = omega arith in
          before j less (omega (arith, run-same (suc q) same)) ∙ sym same
      by before false d false e =
          let n = eqb-false j (suc q) d in
          absurd (n (omega (arith, run-other (suc q) (eqb-false (f (suc q)) (f q) e))))

  -- rows with one mark are a run, or the end of one
  run_long : (first m n : ℕ) → ((j : ℕ) → j < n → f (first + j) ≡ m) → n ≤ run_before f (first + n)
  unfolding mark_before
  run_long first m zero h = omega arith
  run_long first m (suc zero) h =
      let e : first + 1 ≡ suc first = omega arith in
      subst (λ (q : ℕ). 1 ≤ run_before f q) (sym e) (run-some first)
  run_long first m (suc (suc n)) h =
      let here : first + suc n ≡ suc (first + n) = omega arith in
      let end : first + suc (suc n) ≡ suc (suc (first + n)) = omega arith in
      let last : f (suc (first + n)) ≡ m = subst (λ (q : ℕ). f q ≡ m) here (h (suc n) (omega arith)) in
      let below : suc n ≤ run_before f (suc (first + n)) =
      subst (λ (q : ℕ). suc n ≤ run_before f q) here (run_long first m (suc n) (λ j b. h j (omega arith))) in
      subst (λ (q : ℕ). suc (suc n) ≤ run_before f q) (sym end)
      (omega (arith, run-same (suc (first + n)) (last ∙ sym (h n (omega arith)))))

  -- n rows that end at q have the mark m: by the run that ends there, as far as a word counts
  alike_is : (first m n q x y : ℕ) → 0 < n → n ≤ 4294967295 → q ≡ first + n - 1 → x ≡ f q → y ≡ min (run_before f (suc q)) 4294967295
      → (eqb x m && leb n y) ≡ all_below n (λ j. eqb (f (first + j)) m)
  alike_is first m n q x y h g e k r =
      both_ways (eqb x m && leb n y) (all_below n (λ j. eqb (f (first + j)) m)) (λ t. forth ((and-eq-true_iff (eqb x m) (leb n y)).0 t))
      (λ t. (and-eq-true_iff (eqb x m) (leb n y)).1 (back t))
    where
      forth : (eqb x m ≡ true) × (leb n y ≡ true) → all_below n (λ j. eqb (f (first + j)) m) ≡ true
      forth t = all_of (λ j. eqb (f (first + j)) m) n (λ j b.
          eq-eqb (f (first + j)) m
          (run-alike q (first + j) (omega arith) (omega (arith, leb-true n y t.1)) ∙ sym k ∙ eqb-true x m t.0))

      back : all_below n (λ j. eqb (f (first + j)) m) ≡ true → (eqb x m ≡ true) × (leb n y ≡ true)
      back t =
          let at : (j : ℕ) → j < n → f (first + j) ≡ m = λ j b. eqb-true (f (first + j)) m (all-at (λ j. eqb (f (first + j)) m) n j t b) in
          let last : first + (n - 1) ≡ q = omega arith in
          let end : first + n ≡ suc q = omega arith in
          let long = subst (λ (i : ℕ). n ≤ run_before f i) end (run_long first m n at) in
          (eq-eqb x m (k ∙ ap f (sym last) ∙ at (n - 1) (omega arith)), le-leb n y (omega arith))

-- the loop that counts: q rows are passed, from the words n₀ on
pub record Counting (w l n₀ : List ℕ) (q before run : ℕ) (n : List ℕ) : Type 0 where
  pub last : before ≡ mark_before (row_mark w l) q
  pub long : run ≡ min (run_before (row_mark w l) q) 4294967295
  pub runs : cases w + ranges w ≤ length n₀ → (j : ℕ) → j < q → word n j ≡ min (run_before (row_mark w l) (suc j)) 4294967295

-- no row is passed
pub counting-start : (w l n : List ℕ) → Counting w l n 0 0 0 n
unfolding mark_before run_before
counting-start w l n = record { last = refl; long = refl; runs = λ h j b. absurd (omega arith) }

module _ (w l n₀ : List ℕ) (q before run t m run' : ℕ) (n n' : List ℕ)
    (C : Counting w l n₀ q before run n) (inside : q < cases w + ranges w) (long : length n ≡ length n₀)
    (target : t ≡ row_of w q) (there : m ≡ mark l t)
    (same : m ≡ before → run' ≡ min (run + 1) 4294967295) (other : (m ≡ before → ⊥) → run' ≡ 1) (put : n' ≡ set n q run') where
  -- the mark of row q
  mark-is : m ≡ row_mark w l q
  mark-is = there ∙ ap (mark l) target

  -- the run that ends at row q
  run_is : run' ≡ min (run_before (row_mark w l) (suc q)) 4294967295
  run_is = by (eqb m before) refl
    where
      by : (b : Bool) → eqb m before ≡ b → run' ≡ min (run_before (row_mark w l) (suc q)) 4294967295
      by true e =
          let z = eqb-true m before e in
          omega (arith, same z, C.long, run-same (row_mark w l) q (sym mark-is ∙ z ∙ C.last))
      by false e =
          let z = eqb-false m before e in
          omega (arith, other z, run-other (row_mark w l) q (λ g. z (mark-is ∙ g ∙ sym C.last)))

  -- the words of rows up to q
  noted-at : cases w + ranges w ≤ length n₀ → (j : ℕ) → j < q + 1 → (b : Bool) → eqb j q ≡ b
      → word n' j ≡ min (run_before (row_mark w l) (suc j)) 4294967295
  noted-at room j h true e =
      let same-row = eqb-true j q e in
      subst (λ i. word n' i ≡ min (run_before (row_mark w l) (suc i)) 4294967295) (sym same-row)
      (ap (λ (x : List ℕ). word x q) put ∙ get_or-set_same n q run' 0 (omega (arith, long)) ∙ run_is)
  noted-at room j h false e =
      let d = eqb-false j q e in
      ap (λ (x : List ℕ). word x j) put ∙ get_or-set_other n q j run' 0 d ∙ C.runs room j (omega (arith, d))

  -- one more row is passed
  pub counting-on : Counting w l n₀ (q + 1) m run' n'
  unfolding mark_before
  counting-on = record {
    last = rw add-one mark-is;
    long = rw add-one run_is;
    runs = λ room j h. noted-at room j h (eqb j q) refl;
  }

-- all rows are passed
pub counting-done : (w l n₀ : List ℕ) (q before run : ℕ) (n : List ℕ) → q ≡ cases w + ranges w → Counting w l n₀ q before run n
    → Counted w l n₀ n
counting-done w l n₀ q before run n d C room = record { runs = λ j h. C.runs room j (omega (arith, d)) }

-- the rows of a table: none
pub rows_none : (w l : List ℕ) (i m rows : ℕ) → rows ≡ switch_word w i 2 → rows ≡ 0
    → true ≡ all_below (switch_word w i 2) (λ j. eqb (mark l (row_target w i j)) m)
unfolding all_below
rows_none w l i m rows e z = ap (λ (n : ℕ). all_below n (λ j. eqb (mark l (row_target w i j)) m)) (sym z ∙ e)

-- by the mark of the last row and the run that ends there
pub rows-some : (w l n : List ℕ) (i m rows first last t x y : ℕ) → rows ≡ switch_word w i 2 → (rows ≡ 0 → ⊥) → rows ≤ 4294967295
    → first ≡ first_row w i → last ≡ first + rows - 1 → t ≡ row_of w last → x ≡ mark l t → y ≡ word n last → Pooled w i → Runs w l n
    → (eqb x m && leb rows y) ≡ all_below (switch_word w i 2) (λ j. eqb (mark l (row_target w i j)) m)
rows-some w l n i m rows first last t x y e z small a d g h k Q R =
    let inside : last < cases w + ranges w = omega (arith, pooled-inside w i Q, e, a, z) in
    let there : x ≡ row_mark w l last = h ∙ ap (mark l) g in
    alike_is (row_mark w l) first m rows last x y (omega (arith, z)) small d there (k ∙ R.runs last inside)
    ∙ ap (λ (j : ℕ). all_below j (λ j. eqb (row_mark w l (first + j)) m)) e
    ∙ all_same (λ j. eqb (row_mark w l (first + j)) m) (λ j. eqb (mark l (row_target w i j)) m) (switch_word w i 2)
    (λ j b. ap (λ (u : ℕ). eqb (mark l u) m) (ap (λ (j' : ℕ). row_of w (j' + j)) a ∙ sym (row-of w i j Q b)))
