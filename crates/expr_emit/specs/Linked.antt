-- A link of a chain: a Dot or an Index, with its two children.
use Rattle.std.specs.Prelude.{ℕ, List}
use Rattle.lowering.specs.ChainNodes.{Link}
use Rattle.scratch_keys.specs.Used.{ChainKey}

pub record Linked (s : List ℕ) (c : ℕ) : Type 0 where
  pub link : Link s c
  pub key : ChainKey s c
