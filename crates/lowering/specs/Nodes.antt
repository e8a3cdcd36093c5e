-- Nodes of a checked sheet: node 0 is one of its nodes, and so is every child of one. Node numbers do not wrap there, since the children
-- of a node tile its part of the sheet.
use Rattle.std.specs.Prelude.{ℕ, ◌≤◌, ◌<◌, ◌≡◌, true, List}
use Rattle.sheet.specs.Limits.{max_nodes}
use Rattle.sheet.specs.Sections.{node_count}
use Rattle.sheet.specs.Walk.{skip}
use Rattle.check_shape.specs.Shape.{node_ok}

-- j is a node of the sheet
abbrev pub Valid : List ℕ → ℕ → Type 0
Valid s j = j < node_count s

-- n siblings from j on are nodes of the sheet
pub record Row (s : List ℕ) (n j : ℕ) : Type 0 where
  pub each : (i : ℕ) → i < n → Valid s (skip s i j)

-- what the checks of sizes and of shape say of a sheet
pub record Right (s : List ℕ) : Type 0 where
  pub some : 1 ≤ node_count s
  pub few : node_count s ≤ max_nodes
  pub nodes : (j : ℕ) → Valid s j → node_ok s j ≡ true
