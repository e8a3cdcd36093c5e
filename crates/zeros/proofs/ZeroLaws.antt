-- docs/PORT.md names the law of one zero more; the loop that used it is gone.
use Prim.Native.Nat.{ℕ, zero, suc, ◌+◌, ◌<◌}
use mathlib.Core.Path.{◌≡◌, refl, sym, ap, ◌∙◌}
use mathlib.Core.List.{List, [], ◌∷◌, ◌++◌}
use native.Mathlib.Omega.{arith}
use native.Mathlib.Numerals.{add-one}
use lib.ListN.{length, set, drop}
use Rattle.zeros.specs.Zeros.{zeros}

-- a zero behind i zeros
set-zero : (xs : List ℕ) (i : ℕ) → i < length xs → set (zeros i ++ drop i xs) i 0 ≡ zeros (suc i) ++ drop (suc i) xs
set-zero [] i h = absurd (omega arith)
set-zero (x ∷ xs) zero h = refl
set-zero (x ∷ xs) (suc i) h = ap (λ (l : List ℕ). 0 ∷ l) (set-zero xs i (omega arith))

-- the same in the shape of the loop
pub zero_more : (xs ys : List ℕ) (i : ℕ) → i < length xs → ys ≡ zeros i ++ drop i xs → set ys i 0 ≡ zeros (i + 1) ++ drop (i + 1) xs
zero_more xs ys i h e =
    ap (λ (l : List ℕ). set l i 0) e
    ∙ set-zero xs i h
    ∙ ap (λ (k : ℕ). zeros k ++ drop k xs) (sym (add-one i))
