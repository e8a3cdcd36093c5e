-- Numbers that differ from each other: there are no more of them below n than n.
use Rattle.std.specs.Prelude.{ℕ, ◌<◌, List, [], ◌∷◌, ◌≢◌}
use Rattle.expr_chains.specs.Pooled.{All}

-- no number of xs is x
abbrev pub Apart : ℕ → List ℕ → Type 0
Apart x xs = All (λ y. y ≢ x) xs

abbrev pub Below : ℕ → List ℕ → Type 0
Below n xs = All (λ y. y < n) xs

-- no two are equal
abbrev pub Distinct : List ℕ → Type 0
Distinct [] = Prim.Unit {0}
Distinct (x ∷ xs) = Apart x xs × Distinct xs
