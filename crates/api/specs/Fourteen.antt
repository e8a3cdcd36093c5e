-- Where an own name of a sheet has no bytes (A3 of document 02): what each function of the library answers and leaves, and that it answers
-- 14 nowhere else.
use Rattle.std.specs.Prelude.{ℕ, ◌≡◌, List}
use Rattle.checks.specs.Checked.{verdict_number, checked}
use Rattle.checks.specs.EmptyNames.{Before, Nameless}
use Rattle.api.specs.Given.{Given}
use Rattle.api.specs.Asked.{Asked}
use Rattle.api.specs.Judged.{Judged}

-- 14 is the answer, no words are counted, and what was lent is as it was, whatever it was
pub record Refuses (s : List ℕ) : Type 0 where
  pub check : verdict_number (checked s) ≡ 14
  pub needs : {number words : ℕ} → Asked s number words → (number ≡ 14) × (words ≡ 0)
  pub lower : {xs ys xs' ys' : List ℕ} {number words : ℕ} → Given s xs ys number words xs' ys'
      → (number ≡ 14) × (words ≡ 0) × (xs' ≡ xs) × (ys' ≡ ys)
  pub check_image : {w xs xs' : List ℕ} {number : ℕ} → Judged s w xs number xs' → (number ≡ 14) × (xs' ≡ xs)

pub record Fourteen (s : List ℕ) : Type 0 where
  pub refuses : Before s → Nameless s → Refuses s
  -- and nowhere else
  pub by_check : verdict_number (checked s) ≡ 14 → Before s × Nameless s
  pub by_needs : {words : ℕ} → Asked s 14 words → Before s × Nameless s
  pub by_lower : {xs ys xs' ys' : List ℕ} {words : ℕ} → Given s xs ys 14 words xs' ys' → Before s × Nameless s
  pub by_check_image : {w xs xs' : List ℕ} → Judged s w xs 14 xs' → Before s × Nameless s
