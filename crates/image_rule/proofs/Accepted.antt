-- What an accepted image may be used for: a router may run it, whichever way each branch goes, with a stack of the reported depth.
use Prim.Native.Nat.{ℕ}
use mathlib.Core.Path.{◌≡◌}
use mathlib.Core.Bool.{true}
use mathlib.Core.List.{List}
use Rattle.lowering.specs.Demand3.{RunsRight, DepthReached}
use Rattle.image_rule.specs.Test.{well_made}
use Rattle.image_rule.proofs.Theorem.{well-made}

-- every run of an accepted image goes right, and the greatest depth is reached by one
pub accepted-runs : (s w : List ℕ) → well_made s w ≡ true → ((ways : ℕ → ℕ) → RunsRight w ways) × DepthReached w
accepted-runs s w h = let m = (well-made s w).yields h in (m.runs, m.depth)
