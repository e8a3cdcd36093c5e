-- A fact of each member of a list.
use Rattle.std.specs.Prelude.{ℕ, List, [], ◌∷◌}

abbrev pub All : (ℕ → Type 0) → List ℕ → Type 0
All P [] = Prim.Unit {0}
All P (x ∷ xs) = P x × All P xs
