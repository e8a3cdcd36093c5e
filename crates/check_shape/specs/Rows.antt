-- Bounds of kinds as the code holds them, row by row.
use Rattle.std.specs.Prelude.{ℕ, Bool, ◌&&◌, List, [], ◌∷◌, leb}
use Rattle.check_shape.specs.declared.Bounds.{Bounds}

-- the numbers of a row: the least and the greatest count, and the greatest a, b and c
abbrev pub row : Bounds → List ℕ
row r = r.least ∷ r.most ∷ r.a ∷ r.b ∷ r.c ∷ []

-- those of all rows
unfoldable pub numbers : List Bounds → List ℕ
numbers [] = []
numbers (r ∷ rs) = r.least ∷ r.most ∷ r.a ∷ r.b ∷ r.c ∷ numbers rs

-- m children and fields a, b and c are within a row
unfoldable pub holds : Bounds → ℕ → ℕ → ℕ → ℕ → Bool
holds r m a b c = leb r.least m && leb m r.most && leb a r.a && leb b r.b && leb c r.c
