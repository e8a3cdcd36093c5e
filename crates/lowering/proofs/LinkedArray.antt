-- Array: all of its code is reached.
use Prim.Native.Nat.{ℕ, zero, suc, ◌+◌}
use mathlib.Core.Path.{◌≡◌, refl}
use mathlib.Core.Bool.{Bool, true, false}
use mathlib.Core.List.{List, [], ◌∷◌}
use lib.Dec.{leb}
use lib.ListN.{length}
use Rattle.sheet.specs.Node.{count, position, child, next}
use Rattle.bytecode.specs.declared.Op.TheVariants.{CheckSize, MakeArray}
use Rattle.lowering.specs.Limits.{max_elements}
use Rattle.lowering.specs.Code.{ins}
use Rattle.lowering.specs.Pools.{Pools, emits}
use Rattle.lowering.specs.Out.{Rec, and_then, residual_expr}
use Rattle.lowering.specs.Array.{elements, array}
use Rattle.lowering.proofs.Effect.{Context}
use Rattle.lowering.proofs.Linked.{Linked, link, link-none}
use Rattle.lowering.specs.Nodes.{Row}
use Rattle.lowering.proofs.NodesLaws.{row_first, row-rest}
use Rattle.lowering.proofs.LinksAll.{LinksAll, link-cons, link-residual, link-then}

module _ (s : List ℕ) (rec : Rec) where
  pub array-lowers : (j b d : ℕ) (p : Pools) → leb (count s j) max_elements ≡ true
      → array s rec j b d p
      ≡ and_then (elements s rec (count s j) 0 (child j) b d p) (ins (MakeArray (count s j)) (d + count s j) (position s j) ∷ [])
  unfolding array
  array-lowers j b d p h = rw (h, array)

  pub array-stays : (j b d : ℕ) (p : Pools) → leb (count s j) max_elements ≡ false → array s rec j b d p ≡ residual_expr j d p
  unfolding array
  array-stays j b d p h = rw (h, array)

module _ (s : List ℕ) (rec : Rec) (L : LinksAll s rec) where
  elements-link : (X : Context) (n i j b d : ℕ) (p : Pools) → Row s n j → Linked X b (elements s rec n i j b d p).code
  unfolding elements
  elements-link X zero i j b d p r = link-none
  elements-link X (suc n) i j b d p r =
      let o = rec j b d p in
      let rest = elements-link X n (suc i) (next s j) (b + length o.code + 1) (suc d) (emits 1 o.pools) (row-rest r) in
      link (L.links X j b d p (row_first r)) (link-cons (ins (CheckSize i) (suc d) (position s j)) refl rest)

  pub array-links : (X : Context) (j b d : ℕ) (p : Pools) → Row s (count s j) (child j) → Linked X b (array s rec j b d p).code
  array-links X j b d p r = by (leb (count s j) max_elements) refl
    where
      by : (t : Bool) → leb (count s j) max_elements ≡ t → Linked X b (array s rec j b d p).code
      by true h =
          let o = elements s rec (count s j) 0 (child j) b d p in
          let last = ins (MakeArray (count s j)) (d + count s j) (position s j) in
          rw (array-lowers s rec j b d p h) (link-then o last (elements-link X (count s j) 0 (child j) b d p r) refl)
      by false h = rw (array-stays s rec j b d p h) (link-residual j d p)
