-- A chain that was walked to its end, as the lowering closes it: where it is found, and what is kept then. The pools are those that the
-- root's code leaves.
use Prim.Native.Nat.{ℕ, ◌+◌}
use mathlib.Core.Path.{◌≡◌}
use mathlib.Core.List.{List}
use lib.ListN.{length}
use Rattle.sheet.specs.Node.{child}
use Rattle.bytecode.specs.declared.Step.{Step}
use Rattle.lowering.specs.Code.{Code}
use Rattle.lowering.specs.Pools.{Pools}
use Rattle.lowering.specs.Out.{Rec}
use Rattle.lowering.specs.Steps.{walked}
use Rattle.lowering.specs.Chain.{root_of, root_code}
use Rattle.expr_chains.proofs.WalkLaws.{NamesGrow, ChainGives, walk_of, walk-gives, root-code-grows}

module _ (s : List ℕ) (rec : Rec) (G : NamesGrow rec) (j b d : ℕ) (p : Pools) (code : Code) (xs : List Step) (n : ℕ) (q : Pools)
    (e : walk_of s rec G j b d p ≡ walked code xs n q) where
  -- the pools behind the root's code
  abbrev pub closing : Pools
  closing = (root_code rec (root_of s (child j) p) (child j) (b + length code) (d + n) q).pools

  pub closing-gives : ChainGives s closing.names j (root_of s (child j) p) xs n
  closing-gives =
      walk-gives s rec G j b d p code xs n q e closing.names
      (root-code-grows rec G (root_of s (child j) p) (child j) (b + length code) (d + n) q)
