-- Code has the depths that `depth_at` reads from it, so a program whose code is sound from depth 0 to depth 1 is well typed.
use Prim.Native.Nat.{ℕ, suc, ◌+◌}
use mathlib.Core.Path.{◌≡◌, refl, ap, ◌∙◌, subst}
use mathlib.Core.List.{[], ◌∷◌, ◌++◌, append_assoc}
use lib.ListN.{length, length-append}
use native.Mathlib.Omega.{arith}
use native.Mathlib.Nat.{zero-add}
use Rattle.lowering.specs.Code.{Ins, Code}
use Rattle.lowering.specs.Program.{Program}
use Rattle.lowering.proofs.Typed.{Agree, Nothing, Sound}
use Rattle.lowering.proofs.Whole.{context_of, depth_at, WellTyped}

depth-seam : (pre : Code) (i : Ins) (c : Code) → depth_at (pre ++ (i ∷ c)) (length pre) ≡ i.depth
depth-seam [] i c = refl
depth-seam (k ∷ pre) i c = depth-seam pre i c

pub depth-end : (c : Code) → depth_at c (length c) ≡ 1
depth-end [] = refl
depth-end (i ∷ c) = depth-end c

-- the part of a code behind `pre`
agree-self : (pre c : Code) → Agree (depth_at (pre ++ c)) (length pre) c
agree-self pre [] = tt
agree-self pre (i ∷ c) =
    let one : Code = i ∷ [] in
    let l : length (pre ++ one) ≡ suc (length pre) = rw length-append (omega arith) in
    let rest = subst (λ (w : Code). Agree (depth_at w) (length (pre ++ one)) c) (append_assoc pre one c) (agree-self (pre ++ one) c) in
    (depth-seam pre i c, subst (λ (n : ℕ). Agree (depth_at (pre ++ (i ∷ c))) n c) l rest)

pub sound-typed : (r : Program) → Sound (context_of r) Nothing 0 0 1 r.code → WellTyped r
sound-typed r g =
    let c = r.code in
    let l : 0 + length c ≡ length c = zero-add (length c) in
    record {
      starts = g.starts;
      typed = g.typed (depth_at c) (length c) tt (agree-self [] c) (ap (depth_at c) l ∙ depth-end c) (omega arith);
    }
