-- What `==` of two slices answers is the computed test of lists.
use mathlib.Core.Path.{◌≡◌, refl}
use mathlib.Core.Bool.{Bool, true, false, ◌&&◌}
use mathlib.Core.List.{List, [], ◌∷◌}
use Prim.Native.Nat.{ℕ}
use lib.Dec.{eqb}
use lib.Pointwise.{pointwise}
use Rattle.text.specs.Same.{same}

pub pointwise-same : (xs ys : List ℕ) → pointwise eqb xs ys ≡ same xs ys
unfolding same
pointwise-same [] [] = refl
pointwise-same [] (y ∷ ys) = refl
pointwise-same (x ∷ xs) [] = refl
pointwise-same (x ∷ xs) (y ∷ ys) = by (eqb x y) (pointwise-same xs ys)
  where
    by : (t : Bool) → pointwise eqb xs ys ≡ same xs ys → (t && pointwise eqb xs ys) ≡ elim t [ true ↦ same xs ys | false ↦ false ]
    by true h = h
    by false h = refl
