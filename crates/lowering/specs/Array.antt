-- Array: each element is followed by CheckSize with its place from 0, MakeArray ends.
use Rattle.std.specs.Prelude.{ℕ, zero, suc, ◌+◌, true, false, List, [], ◌∷◌, ◌++◌, leb, length}
use Rattle.sheet.specs.Node.{count, position, child, next}
use Rattle.bytecode.specs.declared.Op.TheVariants.{CheckSize, MakeArray}
use Rattle.lowering.specs.Limits.{max_elements}
use Rattle.lowering.specs.Code.{ins}
use Rattle.lowering.specs.Pools.{Pools, emits}
use Rattle.lowering.specs.Out.{Out, out, Rec, and_then, residual_expr}

-- n elements from element i on, which is node j
unfoldable pub elements : List ℕ → Rec → ℕ → ℕ → ℕ → ℕ → ℕ → Pools → Out
elements s rec zero i j b d p = out [] p
elements s rec (suc n) i j b d p =
    let o = rec j b d p in
    let r = elements s rec n (suc i) (next s j) (b + length o.code + 1) (suc d) (emits 1 o.pools) in
    out (o.code ++ (ins (CheckSize i) (suc d) (position s j) ∷ r.code)) r.pools

unfoldable pub array : List ℕ → Rec → ℕ → ℕ → ℕ → Pools → Out
array s rec j b d p =
    elim (leb (count s j) max_elements) [
      | true ↦
          and_then (elements s rec (count s j) 0 (child j) b d p) (ins (MakeArray (count s j)) (d + count s j) (position s j) ∷ [])
      | false ↦ residual_expr j d p
    ]
