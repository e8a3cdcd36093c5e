-- docs/PORT.md names this law: a step of no kind fits nowhere.
use Prim.Native.Nat.{ℕ, ◌<◌}
use mathlib.Core.Path.{◌≡◌, ap}
use mathlib.Core.Bool.{false}
use Rattle.image_read.specs.Kinds.{step_of}
use Rattle.image_read.proofs.KindLaws.{step-past}
use Rattle.image_fields.specs.Fields.{step_fits}

pub step_past : (names k a b c d e : ℕ) → 2 < k → step_fits names (step_of k) a b c d e ≡ false
unfolding step_fits
step_past names k a b c d e h = ap (λ o. step_fits names o a b c d e) (step-past k h)
