-- A test of each number of a list, by blocks, and as a test of the words that they are.
use mathlib.Core.Path.{◌≡◌, refl, sym, ap, ◌∙◌}
use mathlib.Core.Bool.{Bool, true, false, ◌&&◌}
use mathlib.Core.List.{List, [], ◌∷◌, ◌++◌}
use native.Mathlib.Omega.{arith}
use lib.ListN.{length}
use Rattle.std.proofs.Math.Bool.{and-true, and_assoc}
use Rattle.std.specs.List.{fold, list_all}
use Rattle.std.proofs.lemmas.List.Folds.{list_all-append}

module _ {X : Type 0} (p : X → Bool) where
  -- the test of each, all done
  pub fold-all : (a : Bool) (xs : List X) → fold (λ b x. b && p x) a xs ≡ (a && list_all p xs)
  fold-all a [] = sym (and-true a)
  fold-all a (x ∷ xs) = fold-all (a && p x) xs ∙ and_assoc a (p x) (list_all p xs)

  -- a block in front that passes, or does not
  pub passed : {xs : List X} (ys zs : List X) {r : Bool} → xs ≡ ys ++ zs → r ≡ list_all p ys → r ≡ true → list_all p zs ≡ list_all p xs
  passed ys zs e h t = sym (ap (list_all p) e ∙ list_all-append p ys zs ∙ ap (λ b. b && list_all p zs) (sym h ∙ t))

  pub failed : {xs : List X} (ys zs : List X) {r : Bool} → xs ≡ ys ++ zs → r ≡ list_all p ys → r ≡ false → false ≡ list_all p xs
  failed ys zs e h t = sym (ap (list_all p) e ∙ list_all-append p ys zs ∙ ap (λ b. b && list_all p zs) (sym h ∙ t))

  pub none-left : (xs : List X) → length xs ≡ 0 → true ≡ list_all p xs
  none-left [] h = refl
  none-left (x ∷ xs) h = absurd (omega arith)
