-- Interpolated string: each segment is appended to the string below it.
use Prim.Native.Nat.{ℕ, zero, suc, ◌+◌}
use mathlib.Core.Path.{refl}
use mathlib.Core.List.{List}
use lib.ListN.{length}
use native.Mathlib.Omega.{arith}
use Rattle.sheet.specs.Node.{count, position, child, next}
use Rattle.bytecode.specs.declared.Op.TheVariants.{InterpolateStart, InterpolateAppend, InterpolateEnd}
use Rattle.lowering.specs.Code.{ins, no_pos}
use Rattle.lowering.specs.Pools.{Pools, emits}
use Rattle.lowering.specs.Out.{Rec, and_then}
use Rattle.lowering.specs.Interpolated.{segments, interpolated}
use Rattle.lowering.proofs.Meets.{Meets}
use Rattle.lowering.proofs.Lowers.{Done, lowers-none, lowers-seq, lowers-one, meets_at}

module _ (s : List ℕ) (rec : Rec) (M : Meets rec) where
  segments-done : (n j b d : ℕ) (p : Pools) → Done p b (suc d) (suc d) (segments s rec n j b (suc d) p)
  unfolding segments emits
  segments-done zero j b d p = lowers-none
  segments-done (suc n) j b d p =
      let o = rec j b (suc d) p in
      let rest = segments-done n (next s j) (b + length o.code + 1) d (emits 1 o.pools) in
      lowers-seq
      (meets_at M j b (suc d) p)
      (lowers-seq (lowers-one (ins InterpolateAppend (suc (suc d)) (position s j)) refl (λ X A N q g end le. omega arith)) rest)

  pub interpolated-done : (j b d : ℕ) (p : Pools) → Done p b d (suc d) (interpolated s rec j b d p)
  unfolding interpolated and_then emits
  interpolated-done j b d p =
      let r = segments-done (count s j) (child j) (b + 1) d (emits 1 p) in
      lowers-seq
      (lowers-seq (lowers-one (ins InterpolateStart d no_pos) refl (λ X A N q g end le. omega arith)) r)
      (lowers-one (ins InterpolateEnd (suc d) no_pos) refl (λ X A N q g end le. omega arith))
