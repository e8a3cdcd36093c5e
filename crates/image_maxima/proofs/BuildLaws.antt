-- A tree is built from its last node to its first.
use Prim.Native.Nat.{ℕ, ◌+◌, ◌*◌, ◌≤◌, ◌<◌, max}
use mathlib.Core.Path.{◌≡◌}
use mathlib.Core.List.{List}
use lib.ListN.{length, get_or}
use Rattle.image_maxima.specs.Tree.{leaf}

-- what node m is to have
abbrev pub children : List ℕ → ℕ → ℕ
children t m = max (get_or t (2 * m) 0) (get_or t (2 * m + 1) 0)

-- the nodes from k on are built
pub record From (t₀ t : List ℕ) (size k : ℕ) : Type 0 where
  pub same_length : length t ≡ length t₀
  pub below : k ≤ size
  pub nodes : (m : ℕ) → 0 < m → k ≤ m → m < size → get_or t m 0 ≡ children t m
  pub leaves : (j : ℕ) → leaf t size j ≡ leaf t₀ size j
