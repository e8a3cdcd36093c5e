-- The nodes of a chain: each link of a checked sheet's chain has two children, and the node that its step is taken with is a node too.
use Rattle.std.specs.Prelude.{ℕ, ◌≤◌, List}
use Rattle.sheet.specs.Node.{count}
use Rattle.lowering.specs.Nodes.{Valid}

-- a node with two children
pub record Link (s : List ℕ) (c : ℕ) : Type 0 where
  pub valid : Valid s c
  pub two : 2 ≤ count s c
