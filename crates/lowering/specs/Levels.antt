-- The levels of the definition cut nothing off. On a sheet that the check of 1 to 8 accepts, more levels give the same, and each
-- definition that counts levels meets its own equation without them: it can be read as if there were none.
use Rattle.std.specs.Prelude.{ℕ, ◌+◌, ◌<◌, ◌≡◌, true, false, List, [], ◌∷◌}
use Rattle.sheet.specs.Node.{kind, count, child}
use Rattle.sheet.specs.Walk.{skip}
use Rattle.sheet.specs.Start.{starts_inside, own_start, start_within, start_of}
use Rattle.checks.specs.Checked.{verdict_number, checked}
use Rattle.lowering.specs.Limits.{max_levels}
use Rattle.lowering.specs.Pools.{Pools}
use Rattle.lowering.specs.Flatten.{is_chain, rest_of, goes_on, links}
use Rattle.lowering.specs.Expression.{rule, by_rule, expression}
use Rattle.lowering.specs.Outcome.{lower, lower_with}

-- the nodes of the tree: node 0, and the children of each
pub data InTree (s : List ℕ) : ℕ → Type 0 where
  root : InTree s 0
  below : (j i : ℕ) → InTree s j → i < count s j → InTree s (skip s i (child j))

pub record Levelless (s : List ℕ) : Type 0 where
  -- more levels change nothing: of a sheet's program, of the links from a Dot or Index on, of a node's start position
  pub program_same : (n : ℕ) → lower_with (max_levels + n) s ≡ lower s
  pub links_same : (n j : ℕ) → InTree s j → is_chain (kind s j) ≡ true → links (max_levels + n) s j ≡ links max_levels s j
  pub start_same : (n j : ℕ) → InTree s j → start_within (max_levels + n) s j ≡ start_of s j
  -- the three definitions without levels
  pub expression_is : (j b d : ℕ) (p : Pools) → InTree s j
      → expression max_levels s j b d p ≡ by_rule (rule s j) s (expression max_levels s) j b d p
  pub links_is : (j : ℕ) → InTree s j → is_chain (kind s j) ≡ true
      → links max_levels s j ≡ j ∷ elim (goes_on s j) [ true ↦ links max_levels s (rest_of s j) | false ↦ [] ]
  pub start_is : (j : ℕ) → InTree s j
      → start_of s j ≡ elim (starts_inside (kind s j)) [ true ↦ start_of s (child j) | false ↦ own_start s j ]

-- what is to be proved, for every sheet that passes the check
abbrev pub Statement : Type 0
Statement = (s : List ℕ) → verdict_number (checked s) ≡ 0 → Levelless s
