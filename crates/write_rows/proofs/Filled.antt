-- Laws of rows by their numbers, and of a part that is filled with them.
use Prim.Native.Nat.{ℕ, zero, suc, ◌+◌, ◌*◌, ◌≤◌, ◌<◌}
use mathlib.Core.Path.{◌≡◌, refl, sym, ap, ap₂, ◌∙◌}
use mathlib.Core.List.{List, ◌++◌}
use native.Mathlib.Omega.{arith}
use native.Mathlib.Numerals.{add-one}
use native.Mathlib.Nat.{mul-zero, mul-suc}
use lib.ListN.{length, take, get_or, length-append}
use lib.Seq.{take-suc, take_all}
use Rattle.lowering.specs.Image.{section}
use Rattle.write_sections.specs.Written.{Written}
use Rattle.write_sections.specs.Put.{put_part}
use Rattle.write_sections.proofs.PutLaws.{written_none, written_next, written-length, written_all}
use Rattle.write_sections.proofs.RowLaws.{section-snoc}
use Rattle.write_rows.specs.TableRows.{rows_to}

-- a section of the rows xs, by the words of each
module _ {A : Type 0} (g : A → List ℕ) (f : ℕ → List ℕ) (xs : List A) (d : A) where
  rows_taken : (n : ℕ) → n ≤ length xs → ((i : ℕ) → i < n → g (get_or xs i d) ≡ f i) → section g (take n xs) ≡ rows_to f n
  unfolding rows_to section
  rows_taken zero l e = refl
  rows_taken (suc n) l e =
      ap (section g) (take-suc xs n d (omega arith))
      ∙ section-snoc g (take n xs) (get_or xs n d)
      ∙ ap₂ ◌++◌ (rows_taken n (omega arith) (λ i h. e i (omega arith))) (e n (omega arith))

  pub section-by : (n : ℕ) → length xs ≡ n → ((i : ℕ) → i < n → g (get_or xs i d) ≡ f i) → section g xs ≡ rows_to f n
  section-by n l e = sym (ap (section g) (take_all n xs (omega arith))) ∙ rows_taken n (omega arith) e

pub rows-length : (f : ℕ → List ℕ) (k : ℕ) → ((i : ℕ) → length (f i) ≡ k) → (n : ℕ) → length (rows_to f n) ≡ k * n
unfolding rows_to
rows-length f k wide zero = sym (mul-zero k)
rows-length f k wide (suc n) =
    length-append (rows_to f n) (f n) ∙ ap₂ ◌+◌ (rows-length f k wide n) (wide n) ∙ sym (mul-suc k n)

-- the first i of n rows of k words stand in x, which was x₀
pub record Filled (f : ℕ → List ℕ) (k n : ℕ) (x₀ x : List ℕ) (i : ℕ) : Type 0 where
  pub wide : (j : ℕ) → length (f j) ≡ k
  pub within : i ≤ n
  pub kept : length x ≡ length x₀
  pub written : Written x₀ x (rows_to f i)

pub filled-start : {f : ℕ → List ℕ} {k : ℕ} (n : ℕ) (x : List ℕ) → ((j : ℕ) → length (f j) ≡ k) → Filled f k n x x 0
unfolding rows_to
filled-start n x wide = record { wide = wide; within = omega arith; kept = refl; written = written_none x }

module _ {f : ℕ → List ℕ} {k n : ℕ} {x₀ x : List ℕ} {i : ℕ} (F : Filled f k n x₀ x i) where
  pub filled_next : {y : List ℕ} (row : List ℕ) → i < n → k * i + k ≤ length x₀ → row ≡ f i → y ≡ put_part x (k * i) k row
      → Filled f k n x₀ y (i + 1)
  unfolding rows_to
  filled_next {y} row h room q r =
      let next = written_next F.written (k * i) k row (rows-length f k F.wide i) (ap length q ∙ F.wide i) room in
      let all : Written x₀ y (rows_to f (i + 1)) = rw (r, add-one, rows_to, ← q) next in
      record { wide = F.wide; within = omega arith; kept = written-length all; written = all }

  pub filled-end : length x₀ ≡ k * n → i ≡ n → x ≡ rows_to f n
  filled-end e h =
      let all = ap (rows_to f) h in
      written_all F.written (ap length all ∙ rows-length f k F.wide n ∙ sym e) ∙ all
