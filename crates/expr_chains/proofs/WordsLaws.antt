-- A step and a chain have six words each.
use Prim.Native.Nat.{ℕ}
use mathlib.Core.Path.{◌≡◌, refl, sym, ap, ◌∙◌}
use mathlib.Core.List.{List, [], ◌∷◌, ◌++◌, append_assoc}
use Rattle.bytecode.specs.declared.Step.{Step}
use Rattle.bytecode.specs.Chain.{step_words}
use Rattle.lowering.specs.Pools.{steps_words}

pub steps-append : (xs ys : List Step) → steps_words (xs ++ ys) ≡ steps_words xs ++ steps_words ys
unfolding steps_words
steps-append [] ys = refl
steps-append (x ∷ xs) ys =
    ap (λ (l : List ℕ). step_words x ++ l) (steps-append xs ys) ∙ sym (append_assoc (step_words x) (steps_words xs) (steps_words ys))
