-- Coalesce: a value that is not unit stays and is taken to the end, any other is dropped; the last operand ends at the same depth.
use Prim.Native.Nat.{ℕ, suc, ◌+◌, ◌-◌, ◌≤◌}
use mathlib.Core.Path.{◌≡◌, refl, subst}
use mathlib.Core.List.{List, [], ◌∷◌, ◌++◌}
use lib.ListN.{length, length-append}
use native.Mathlib.Omega.{arith}
use Rattle.sheet.specs.Node.{count, child}
use Rattle.sheet.specs.Walk.{skip}
use Rattle.bytecode.specs.declared.Op.TheVariants.{SkipIfNotUnit, Pop}
use Rattle.lowering.specs.Code.{Code, ins}
use Rattle.lowering.specs.Pools.{Pools}
use Rattle.lowering.specs.Out.{Rec}
use Rattle.lowering.specs.ShortCircuit.{Fragment, fragments, extent}
use Rattle.lowering.specs.Coalesce.{skipped, coalesce}
use Rattle.lowering.proofs.Effect.{Context}
use Rattle.lowering.proofs.Typed.{Nothing, Exit, Sound, seq, none, one, weaken, close}
use Rattle.lowering.proofs.Meets.{grows-trans, Meets}
use Rattle.lowering.proofs.Lowers.{Done}
use Rattle.lowering.proofs.SoundShortCircuit.{Parts, fragments-grow, fragments-sound}

pub skipped-length : (t d : ℕ) (fs : List Fragment) → length (skipped t d fs) ≡ extent 2 fs
unfolding skipped extent
skipped-length t d [] = refl
skipped-length t d (f ∷ fs) = rw length-append (omega (arith, skipped-length t d fs))

module _ (X : Context) where
  skip-sound : (t b d pos : ℕ) → suc b ≤ t
      → Sound X (Exit t (suc d)) b (suc d) d (ins (SkipIfNotUnit t) (suc d) pos ∷ ins Pop (suc d) pos ∷ [])
  skip-sound t b d pos h =
      seq
      (one {e = suc d} (ins (SkipIfNotUnit t) (suc d) pos) refl (λ A N o start end le. omega arith))
      (one (ins Pop (suc d) pos) refl (λ A N o start end le. omega arith))

  skipped-sound : (t b d : ℕ) (fs : List Fragment) → Parts X 2 b d fs → b + extent 2 fs ≤ t
      → Sound X (Exit t (suc d)) b d d (skipped t d fs)
  unfolding skipped extent
  skipped-sound t b d [] ps h = none
  skipped-sound t b d (f ∷ fs) ps h =
      let rest = skipped-sound t (b + length f.code + 2) d fs ps.1 (omega arith) in
      seq (weaken (λ A N o. tt) ps.0) (seq (skip-sound t (b + length f.code) d f.pos (omega arith)) rest)

  -- the fragments, then code from their end on
  ended-sound : (e b d : ℕ) (fs : List Fragment) (c : Code) → Parts X 2 b d fs → b + extent 2 fs ≡ e → Sound X Nothing e d (suc d) c
      → Sound X Nothing b d (suc d) (skipped (e + length c) d fs ++ c)
  ended-sound e b d fs c ps h last =
      let t = e + length c in
      let l = skipped-length t d fs in
      let at-e : e ≡ b + length (skipped t d fs) = omega arith in
      let last' = weaken {O' = Exit t (suc d)} (λ A N o. tt) (subst (λ (n : ℕ). Sound X Nothing n d (suc d) c) at-e last) in
      close {t = t} (rw length-append (omega arith)) (seq (skipped-sound t b d fs ps (omega arith)) last')

module _ (s : List ℕ) (rec : Rec) (M : Meets rec) where
  pub coalesce-done : (j b d : ℕ) (p : Pools) → Done p b d (suc d) (coalesce s rec j b d p)
  unfolding coalesce
  coalesce-done j b d p =
      let n = count s j - 1 in
      let r = fragments s rec 2 n (child j) b d p in
      let e = b + extent 2 r.parts in
      let k = skip s n (child j) in
      let o = rec k e d r.pools in
      let more = M.grows k e d r.pools in
      record {
        sound =
            λ X g. ended-sound X e b d r.parts o.code (fragments-sound s rec M X 2 n (child j) b d p (grows-trans more g)) refl
            (M.sound X k e d r.pools g);
        grows = grows-trans (fragments-grow s rec M 2 n (child j) b d p) more;
      }
