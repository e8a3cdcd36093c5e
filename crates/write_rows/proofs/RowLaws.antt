-- Laws of rows read from the flat table: targets by their exits, and the words of a case and of a band.
use Prim.Native.Nat.{ℕ, zero, suc, ◌+◌, ◌-◌, ◌*◌, ◌/◌, ◌%◌}
use mathlib.Core.Path.{◌≡◌, refl, ap}
use mathlib.Core.List.{List, [], ◌∷◌}
use native.Mathlib.Omega.{arith}
use lib.ListN.{length}
use borrow.Author.Tests.{le-ltb, ne_eqb}
use Rattle.lowering.specs.Limits.{case_width, range_width}
use Rattle.switch_tables.specs.declared.kinds.Exit.{Exit}
use Rattle.switch_tables.specs.declared.kinds.Exit.TheVariants.{Chain, Fallback, Body}
use Rattle.switch_tables.specs.Kinds.{said_exit}
use Rattle.switch_tables.specs.Columns.{low_at, high_at, band_first_at, band_last_at, body_at, case_const_at, cell}
use Rattle.write_rows.specs.TableRows.{rows_to, target_in, target_at, case_target_in, case_words_in, band_target_in, range_words_in}
use Rattle.write_rows.proofs.Filled.{rows-length}

-- where a list goes, by what its exit says
abbrev pub target_by : List ℕ → ℕ → ℕ → Exit → ℕ
target_by w place fallback (Chain falls) = place
target_by w place fallback Fallback = fallback
target_by w place fallback (Body k) = cell w (body_at + k)

target-says : (w : List ℕ) (place fallback x : ℕ) → target_by w place fallback (said_exit x) ≡ target_in w x place fallback
unfolding target_in
target-says w place fallback zero = refl
target-says w place fallback (suc zero) = refl
target-says w place fallback (suc (suc zero)) = refl
target-says w place fallback (suc (suc (suc k))) =
    let x : ℕ = suc (suc (suc k)) in
    rw (le-ltb x 2 (omega arith), ne_eqb x 2 (λ e. omega arith), target_in) (ap (cell w) (omega arith))

-- what is read, cell by cell
pub target_is : (w : List ℕ) (number exits places fallback q x : ℕ) (e : Exit) → q ≡ cell w number → x ≡ cell w (exits + q)
    → e ≡ said_exit x
    → target_by w (cell w (places + q)) (cell w fallback) e ≡ target_at w number exits places fallback
unfolding target_at
target_is w number exits places fallback q x e a b c =
    rw (c, target-says w (cell w (places + q)) (cell w fallback) x, b, a)

pub range-words :
    (w : List ℕ) (i first last fl fh tl th t : ℕ) → first ≡ cell w (band_first_at + i) → last ≡ cell w (band_last_at + i)
    → fl ≡ cell w (low_at + first / 2) → fh ≡ cell w (high_at + first / 2) → tl ≡ cell w (low_at + (last / 2 + last % 2))
    → th ≡ cell w (high_at + (last / 2 + last % 2)) → t ≡ band_target_in w i
    → (fl ∷ fh ∷ tl ∷ th ∷ (1 - last % 2) ∷ t ∷ []) ≡ range_words_in w i
unfolding range_words_in
range-words w i first last fl fh tl th t a b c d e f g = rw (c, d, e, f, g, a, b)

pub case-words : (w : List ℕ) (i t k : ℕ) → t ≡ case_target_in w i → k ≡ cell w (case_const_at + i) → (t ∷ k ∷ []) ≡ case_words_in w i
unfolding case_words_in
case-words w i t k e q = rw (e, q)

-- how many words they are
module _ (w : List ℕ) where
  pub case-two : (i : ℕ) → length (case_words_in w i) ≡ case_width
  unfolding case_words_in
  case-two i = refl

  pub range-six : (i : ℕ) → length (range_words_in w i) ≡ range_width
  unfolding range_words_in
  range-six i = refl

  pub cases-length : (n : ℕ) → length (rows_to (case_words_in w) n) ≡ case_width * n
  cases-length n = rows-length (case_words_in w) case_width case-two n

  pub ranges-length : (n : ℕ) → length (rows_to (range_words_in w) n) ≡ range_width * n
  ranges-length n = rows-length (range_words_in w) range_width range-six n
