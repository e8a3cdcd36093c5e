-- A pass over the nodes in order, with the open nodes on a stack: what is left of them.
use Prim.Native.Nat.{ℕ, ◌+◌, ◌-◌}
use mathlib.Core.Path.{◌≡◌}
use mathlib.Core.Bool.{true}
use mathlib.Core.List.{List, [], ◌∷◌}
use lib.ListN.{length}
use Rattle.sheet.specs.Node.{span, count}
use Rattle.sheet.specs.Walk.{siblings}
use Rattle.check_shape.specs.Shape.{tiles}
use Rattle.check_depth.specs.Depth.{within}

-- a node that is open, and how many of its children are passed
pub record Place : Type 0 where
  pub node : ℕ
  pub passed : ℕ

abbrev pub at : ℕ → ℕ → Place
at p i = record { node = p; passed = i }

-- the first node behind the subtree of p
abbrev pub end : List ℕ → ℕ → ℕ
end s p = p + span s p

-- what is left of node p, with i of its children passed and node j next, holds: the tiling, and the levels where p has d nodes above it
pub record Rest (s : List ℕ) (d p i j : ℕ) : Type 0 where
  pub tiled : tiles (count s p - i) s p (end s p) i j ≡ true
  pub deep : siblings (within (63 - d) s) s (count s p - i) j ≡ true

-- what is left of all open nodes holds: of the innermost node j is next, of each other the end of the one inside it
abbrev pub Left : List ℕ → ℕ → List Place → Type 0
Left s j [] = Unit {0}
Left s j (o ∷ os) = Rest s (length os) o.node o.passed j × Left s (end s o.node) os
