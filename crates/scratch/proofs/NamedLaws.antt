-- docs/PORT.md names this law; the loop that used it is gone.
use Prim.Native.Nat.{ℕ, ◌+◌}
use mathlib.Core.Path.{◌≡◌, sym, ap, ◌∙◌}
use mathlib.Core.List.{List}
use native.Mathlib.Numerals.{add-one}
use lib.ListN.{set}
use Rattle.scratch.specs.Clear.{cleared}

-- one word more is cleared
pub cleared_more : (at n : ℕ) (xs ys zs : List ℕ) → ys ≡ cleared at n xs → zs ≡ set ys (at + n) 0 → zs ≡ cleared at (n + 1) xs
unfolding cleared
cleared_more at n xs ys zs e f = f ∙ ap (λ (l : List ℕ). set l (at + n) 0) e ∙ sym (ap (λ (m : ℕ). cleared at m xs) (add-one n))
