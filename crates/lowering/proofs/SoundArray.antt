-- Array: n elements take depth d to d + n, and MakeArray takes them off again.
use Prim.Native.Nat.{ℕ, zero, suc, ◌+◌}
use mathlib.Core.Path.{◌≡◌, refl, sym, ◌∙◌, subst}
use mathlib.Core.Bool.{Bool, true, false}
use mathlib.Core.List.{List, []}
use native.Mathlib.Omega.{arith}
use native.Mathlib.Nat.{add-zero, suc-add, add-suc}
use lib.Dec.{leb}
use lib.ListN.{length}
use Rattle.lowering.proofs.LinkedArray.{array-lowers, array-stays}
use Rattle.sheet.specs.Node.{count, position, child, next}
use Rattle.bytecode.specs.declared.Op.TheVariants.{CheckSize, MakeArray, EvalAst}
use Rattle.lowering.specs.Limits.{max_elements}
use Rattle.lowering.specs.Code.{ins, no_pos}
use Rattle.lowering.specs.Pools.{Pools, emits, push_residual}
use Rattle.lowering.specs.Out.{Rec, and_then, emit_at, residual_expr}
use Rattle.lowering.specs.Array.{elements, array}
use Rattle.lowering.proofs.Effect.{Context}
use Rattle.lowering.proofs.Typed.{Nothing, Sound, seq, none, one}
use Rattle.lowering.proofs.Meets.{Grows, grows-refl, grows-trans, Meets}

module _ (s : List ℕ) (rec : Rec) (M : Meets rec) where
  elements-grow : (n i j b d : ℕ) (p : Pools) → Grows p.chains (elements s rec n i j b d p).pools.chains
  unfolding elements emits
  elements-grow zero i j b d p = grows-refl p.chains
  elements-grow (suc n) i j b d p =
      let o = rec j b d p in
      grows-trans (M.grows j b d p)
      (elements-grow n (suc i) (next s j) (b + length o.code + 1) (suc d) (emits 1 o.pools))

  elements-sound : (X : Context) (n i j b d : ℕ) (p : Pools) → Grows (elements s rec n i j b d p).pools.chains X.chains
      → Sound X Nothing b d (d + n) (elements s rec n i j b d p).code
  unfolding elements emits
  elements-sound X zero i j b d p g = subst (λ (e : ℕ). Sound X Nothing b d e []) (sym (add-zero d)) none
  elements-sound X (suc n) i j b d p g =
      let o = rec j b d p in
      let p' = emits 1 o.pools in
      let rest = elements-sound X n (suc i) (next s j) (b + length o.code + 1) (suc d) p' g in
      let check = one {X = X} {O = Nothing} {b = b + length o.code} {d = suc d} {e = suc d} (ins (CheckSize i) (suc d) (position s j))
      refl (λ A N u a e le. omega arith) in
      let first = M.sound X j b d p (grows-trans (elements-grow n (suc i) (next s j) (b + length o.code + 1) (suc d) p') g) in
      subst (λ (e : ℕ). Sound X Nothing b d e (elements s rec (suc n) i j b d p).code) (suc-add d n ∙ sym (add-suc d n))
      (seq first (seq check rest))

  pub array-grows : (j b d : ℕ) (p : Pools) → Grows p.chains (array s rec j b d p).pools.chains
  unfolding and_then residual_expr emit_at emits push_residual
  array-grows j b d p = by (leb (count s j) max_elements) refl
    where
      by : (t : Bool) → leb (count s j) max_elements ≡ t → Grows p.chains (array s rec j b d p).pools.chains
      by true h = rw (array-lowers s rec j b d p h) (elements-grow (count s j) 0 (child j) b d p)
      by false h = rw (array-stays s rec j b d p h) (grows-refl p.chains)

  pub array-sound : (X : Context) (j b d : ℕ) (p : Pools) → Grows (array s rec j b d p).pools.chains X.chains
      → Sound X Nothing b d (suc d) (array s rec j b d p).code
  unfolding and_then residual_expr emit_at emits push_residual
  array-sound X j b d p = by (leb (count s j) max_elements) refl
    where
      by : (t : Bool) → leb (count s j) max_elements ≡ t → Grows (array s rec j b d p).pools.chains X.chains
          → Sound X Nothing b d (suc d) (array s rec j b d p).code
      by true h =
          rw (array-lowers s rec j b d p h) (λ g.
          seq (elements-sound X (count s j) 0 (child j) b d p g)
          (one (ins (MakeArray (count s j)) (d + count s j) (position s j)) refl (λ A N u a e le. omega arith)))
      by false h =
          rw (array-stays s rec j b d p h) (λ g. one (ins (EvalAst (length p.residuals)) d no_pos) refl (λ A N u a e le. omega arith))
