-- docs/PORT.md names these laws. Those of one scratch with the marks in front of the words of rows are said without its records.
use Prim.Native.Nat.{ℕ, ◌+◌, ◌≤◌, ◌<◌, max}
use mathlib.Core.Path.{◌≡◌, sym, ap, ◌∙◌}
use mathlib.Core.List.{List}
use native.Mathlib.Omega.{arith}
use lib.ListN.{length, get_or, set, take, drop, length-take}
use lib.Seq.{take-set-le, drop-set-add, get_or-drop}
use borrow.Author.Tests.{ne_eqb}
use Rattle.lowering.specs.Words.{word, switch_word}
use Rattle.image_rule.specs.Rules.{cases}
use Rattle.image_rule.specs.Marks.{marks_there, come}
use Rattle.image_read.specs.declared.Sizes.{Sizes}
use Rattle.image_read.specs.Placed.{SizesOf}
use Rattle.image_rows.specs.AllRows.{first_row}
use Rattle.image_rows.proofs.ScratchLaws.{come-past}

-- the first range of a table stands behind the cases
pub first_range : (w : List ℕ) (i : ℕ) → (switch_word w i 0 ≡ 0 → ⊥) → first_row w i ≡ cases w + switch_word w i 1
unfolding first_row
first_range w i z = rw (ne_eqb (switch_word w i 0) 0 z, first_row)

-- how many marks there are
pub size_is : (w : List ℕ) (o : Sizes) (size : ℕ) → size ≡ o.places + 1 + o.tables → SizesOf w o → size ≡ marks_there w
size_is w o size e P = omega (arith, P.places, P.tables)

-- a mark behind the last word is left out
pub left_out : (size m t : ℕ) (l : List ℕ) → length l ≤ t → take size l ≡ come m (take size l) t
left_out size m t l h = sym (come-past m (take size l) t (omega (arith, length-take size l)))

-- what raises the word of a row
pub record Raised (size k n : ℕ) (l l' : List ℕ) : Type 0 where
  pub was : get_or l (size + k) 0 ≡ word (drop size l) k
  pub marks : take size l' ≡ take size l
  pub rest : drop size l' ≡ set (drop size l) k (max (get_or l (size + k) 0) n)

pub noted_more : (size k n : ℕ) (l : List ℕ) → get_or l (size + k) 0 < n → Raised size k n l (set l (size + k) n)
noted_more size k n l h =
    let most : n ≡ max (get_or l (size + k) 0) n = omega arith in
    record {
      was = sym (get_or-drop size l k 0);
      marks = take-set-le size l (size + k) n (omega arith);
      rest = drop-set-add size l k n ∙ ap (set (drop size l) k) most;
    }

-- only the word of row q changes
pub rest_is :
    (w : List ℕ) (q run size : ℕ) (l l' : List ℕ) → size ≡ marks_there w → l' ≡ set l (size + q) run
    → drop (marks_there w) l' ≡ set (drop (marks_there w) l) q run
rest_is w q run size l l' s put =
    ap (drop (marks_there w)) (put ∙ ap (λ (n : ℕ). set l (n + q) run) s) ∙ drop-set-add (marks_there w) l q run
