-- What the numbers of a part need: chains that are few enough have so few steps that a word counts them.
use Prim.Native.Nat.{ℕ, ◌+◌, ◌-◌, ◌≤◌, ◌<◌}
use mathlib.Core.Path.{◌≡◌, refl, ap, ◌∙◌}
use mathlib.Core.List.{List}
use native.Mathlib.Omega.{arith}
use lib.ListN.{length, take, drop}
use denote.Ref.{Bor}
use mathlib.Core.Logic.{◌⊎◌, inl, inr}
use Rattle.std.specs.Prelude.{Option, Some, None, unwrap_or}
use Rattle.std.specs.Slice.{IsGetRangeResult}
use Rattle.scratch.proofs.RegionLaws.{part-is, region-length}
use Rattle.scratch.specs.Places.{region}
use Rattle.expr_chains.specs.Kept.{step_count}
use Rattle.write_sections.proofs.ChainRows.{steps-most}

pub few-steps : (s js : List ℕ) (n : ℕ) → length js ≡ n → n ≤ 67108863 → step_count s js < 4294967296
few-steps s js n e f = omega (arith, f, e, steps-most s js)

-- a part that is there is what `get` lends, and not the part that stands for none
pub got :
    (xs : List ℕ) (b n e : ℕ) (r : Option (Bor (List ℕ))) (none : Bor (List ℕ)) → b + n ≤ length xs → e ≡ b + n
    → IsGetRangeResult xs b e r → (unwrap_or r none).now ≡ region b n xs
got xs b n e None none room is g = absurd (missing g.0)
  where
    missing : (e < b) ⊎ (length xs < e) → ⊥
    missing (inl f) = omega arith
    missing (inr f) = omega arith
got xs b n e (Some x) none room is g =
    g.0.2 ∙ ap (λ k. take (k - b) (drop b xs)) is ∙ part-is b b n xs refl

-- the length of a part
pub part_length : (xs : List ℕ) (b n : ℕ) → b + n ≤ length xs → length (take ((b + n) - b) (drop b xs)) ≡ n
part_length xs b n h = ap length (part-is b b n xs refl) ∙ region-length b n xs h
