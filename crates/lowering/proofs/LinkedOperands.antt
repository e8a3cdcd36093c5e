-- Siblings lowered one after another: all of their code is reached.
use Prim.Native.Nat.{ℕ, zero, suc, ◌+◌}
use mathlib.Core.List.{List}
use lib.ListN.{length}
use Rattle.sheet.specs.Node.{next}
use Rattle.lowering.specs.Pools.{Pools}
use Rattle.lowering.specs.Out.{Rec}
use Rattle.lowering.specs.Operands.{operands}
use Rattle.lowering.proofs.Effect.{Context}
use Rattle.lowering.proofs.Linked.{Linked, link, link-none}
use Rattle.lowering.specs.Nodes.{Row}
use Rattle.lowering.proofs.NodesLaws.{row_first, row-rest}
use Rattle.lowering.proofs.LinksAll.{LinksAll}

module _ (s : List ℕ) (rec : Rec) (L : LinksAll s rec) where
  pub operands-link : (X : Context) (n j b d : ℕ) (p : Pools) → Row s n j → Linked X b (operands s rec n j b d p).code
  unfolding operands
  operands-link X zero j b d p r = link-none
  operands-link X (suc n) j b d p r =
      let o = rec j b d p in
      link (L.links X j b d p (row_first r))
      (operands-link X n (next s j) (b + length o.code) (suc d) o.pools (row-rest r))
