-- The lent scratch in two parts: the marks, and a word for each row. While marks are found, the word of row q says how many rows from
-- q on need not be come to again; when they are checked, how many rows up to q have one mark.
use Rattle.std.specs.Prelude.{ℕ, suc, ◌+◌, ◌≤◌, ◌<◌, min, max, ◌≡◌, List, length, set}
use Rattle.lowering.specs.Words.{word}
use Rattle.image_rule.specs.Rules.{cases, ranges}
use Rattle.image_rule.specs.Marks.{mark, come}
use Rattle.image_rows.specs.AllRows.{row_of, run_before}

-- whoever comes to t changes nothing
abbrev pub Settled : List ℕ → ℕ → Type 0
Settled l t = t < length l → mark l t ≡ 0 → ⊥

-- what the words n of rows tell of the marks l
pub record Seen (w l n : List ℕ) : Type 0 where
  pub seen : (q j : ℕ) → q ≤ j → j < q + word n q → Settled l (row_of w j)

-- what was done to the marks
pub record Did (w : List ℕ) (F : List ℕ → List ℕ) (l l' n' : List ℕ) : Type 0 where
  pub marks : l' ≡ F l
  pub seen : Seen w l' n'

abbrev pub Does : List ℕ → (List ℕ → List ℕ) → List ℕ → List ℕ → List ℕ → List ℕ → Type 0
Does w F l n l' n' = Seen w l n → Did w F l l' n'

-- row k, with `left` rows left: come to, unless it was seen with r rows from it on
pub record Stepped (w : List ℕ) (m k left r : ℕ) (l n l' n' : List ℕ) : Type 0 where
  pub fresh : word n k ≡ 0 → (r ≡ 1) × (l' ≡ come m l (row_of w k))
  pub again : (word n k ≡ 0 → ⊥) → (r ≡ min (word n k) left) × (l' ≡ l)
  pub rest : n' ≡ set n k (max (word n k) left)

-- the mark that row q leads to
abbrev pub row_mark : List ℕ → List ℕ → ℕ → ℕ
row_mark w l q = mark l (row_of w q)

-- the word of each row tells the run of rows that ends there
pub record Runs (w l n : List ℕ) : Type 0 where
  pub runs : (q : ℕ) → q < cases w + ranges w → word n q ≡ min (run_before (row_mark w l) (suc q)) 4294967295

-- so it is where each row has a word
abbrev pub Counted : List ℕ → List ℕ → List ℕ → List ℕ → Type 0
Counted w l n n' = cases w + ranges w ≤ length n → Runs w l n'
