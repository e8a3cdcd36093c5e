-- Interpolated string: all of its code is reached.
use Prim.Native.Nat.{ℕ, zero, suc, ◌+◌}
use mathlib.Core.Path.{refl}
use mathlib.Core.List.{List, ◌∷◌}
use lib.ListN.{length}
use Rattle.sheet.specs.Node.{count, position, child, next}
use Rattle.bytecode.specs.declared.Op.TheVariants.{InterpolateStart, InterpolateAppend, InterpolateEnd}
use Rattle.lowering.specs.Code.{ins, no_pos}
use Rattle.lowering.specs.Pools.{Pools, emits}
use Rattle.lowering.specs.Out.{out, Rec}
use Rattle.lowering.specs.Interpolated.{segments, interpolated}
use Rattle.lowering.proofs.Effect.{Context}
use Rattle.lowering.proofs.Linked.{Linked, link, link-none}
use Rattle.lowering.specs.Nodes.{Row}
use Rattle.lowering.proofs.NodesLaws.{row_first, row-rest}
use Rattle.lowering.proofs.LinksAll.{LinksAll, link-cons, link-then}

module _ (s : List ℕ) (rec : Rec) (L : LinksAll s rec) where
  segments-link : (X : Context) (n j b d : ℕ) (p : Pools) → Row s n j → Linked X b (segments s rec n j b d p).code
  unfolding segments
  segments-link X zero j b d p r = link-none
  segments-link X (suc n) j b d p r =
      let o = rec j b d p in
      let rest = segments-link X n (next s j) (b + length o.code + 1) d (emits 1 o.pools) (row-rest r) in
      link (L.links X j b d p (row_first r)) (link-cons (ins InterpolateAppend (suc d) (position s j)) refl rest)

  pub interpolated-links : (X : Context) (j b d : ℕ) (p : Pools) → Row s (count s j) (child j)
      → Linked X b (interpolated s rec j b d p).code
  unfolding interpolated
  interpolated-links X j b d p r =
      let o = segments s rec (count s j) (child j) (b + 1) (suc d) (emits 1 p) in
      let inner = segments-link X (count s j) (child j) (b + 1) (suc d) (emits 1 p) r in
      link-then (out (ins InterpolateStart d no_pos ∷ o.code) o.pools) (ins InterpolateEnd (suc d) no_pos)
      (link-cons (ins InterpolateStart d no_pos) refl inner)
      refl
