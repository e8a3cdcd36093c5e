-- Interpolated string: InterpolateStart, then each segment and InterpolateAppend, then InterpolateEnd.
use Rattle.std.specs.Prelude.{ℕ, zero, suc, ◌+◌, List, [], ◌∷◌, ◌++◌, length}
use Rattle.sheet.specs.Node.{count, position, child, next}
use Rattle.bytecode.specs.declared.Op.TheVariants.{InterpolateStart, InterpolateAppend, InterpolateEnd}
use Rattle.lowering.specs.Code.{ins, no_pos}
use Rattle.lowering.specs.Pools.{Pools, emits}
use Rattle.lowering.specs.Out.{Out, out, Rec, and_then}

-- n segments from node j on, onto the string at depth d
unfoldable pub segments : List ℕ → Rec → ℕ → ℕ → ℕ → ℕ → Pools → Out
segments s rec zero j b d p = out [] p
segments s rec (suc n) j b d p =
    let o = rec j b d p in
    let r = segments s rec n (next s j) (b + length o.code + 1) d (emits 1 o.pools) in
    out (o.code ++ (ins InterpolateAppend (suc d) (position s j) ∷ r.code)) r.pools

unfoldable pub interpolated : List ℕ → Rec → ℕ → ℕ → ℕ → Pools → Out
interpolated s rec j b d p =
    let r = segments s rec (count s j) (child j) (b + 1) (suc d) (emits 1 p) in
    and_then (out (ins InterpolateStart d no_pos ∷ r.code) r.pools) (ins InterpolateEnd (suc d) no_pos ∷ [])
