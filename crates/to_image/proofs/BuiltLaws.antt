-- What the making of an image leaves, once its words are counted: the image as it was where they do not fit, and else the words.
use Prim.Native.Nat.{ℕ, ◌<◌, ◌≤◌}
use mathlib.Core.Path.{◌≡◌, refl}
use mathlib.Core.List.{List, ◌++◌}
use native.Mathlib.Omega.{arith}
use lib.ListN.{length, drop}
use Rattle.lowering.specs.Image.{words}
use Rattle.lowering.specs.Outcome.{lower}
use Rattle.to_image.specs.Making.{Built}

module _ {s img : List ℕ} {len : ℕ} (count : len ≡ length (words (lower s))) where
  -- the image is too short
  pub left_out : length img < len → Built s img len img
  left_out g = record { count = count; fits = λ h. absurd (omega arith); kept = λ h. refl }

  -- the words are put in
  pub put_in : {img' : List ℕ} → len ≤ length img
      → (length (words (lower s)) ≤ length img → img' ≡ words (lower s) ++ drop (length (words (lower s))) img) → Built s img len img'
  put_in g wrote = record { count = count; fits = λ h. wrote (omega (arith, count)); kept = λ h. absurd (omega arith) }
