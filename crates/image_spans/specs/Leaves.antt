-- The targets of cases and, behind them, of ranges as the leaves of one tree. A leaf is as far below the greatest word as the target is
-- above 0, so that the greatest leaf is that of the least target.
use Rattle.std.specs.Prelude.{ℕ, ◌+◌, ◌-◌, ◌/◌, ◌<◌, ◌≡◌, List, get_or, length}
use Rattle.image_rule.specs.Rules.{cases, ranges}
use Rattle.image_read.specs.Targets.{target_of}
use Rattle.image_maxima.specs.Tree.{leaf, Tree}
use Rattle.image_spans.specs.Premises.{RowsLie}

abbrev pub turned : ℕ → ℕ
turned target = 4294967295 - target

abbrev pub row_count : List ℕ → ℕ
row_count w = cases w + ranges w

-- the targets of the first n rows of a kind stand in l from `at` on; what stood before is as in l₀
pub record Put (w : List ℕ) (kind at n : ℕ) (l₀ l : List ℕ) : Type 0 where
  pub put : (j : ℕ) → j < n → get_or l (at + j) 0 ≡ turned (target_of w kind j)
  pub before : (k : ℕ) → k < at → get_or l k 0 ≡ get_or l₀ k 0

-- all of t is the tree over all targets, of tables whose rows lie in it
pub record TargetTree (w t : List ℕ) : Type 0 where
  pub half : length t / 2 ≡ row_count w
  pub tree : Tree t (row_count w)
  pub first : (j : ℕ) → j < cases w → leaf t (row_count w) j ≡ turned (target_of w 0 j)
  pub second : (j : ℕ) → j < ranges w → leaf t (row_count w) (cases w + j) ≡ turned (target_of w 1 j)
  pub lie : RowsLie w
