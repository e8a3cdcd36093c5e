-- Walks over siblings.
use Rattle.std.specs.Prelude.{ℕ, zero, suc, Bool, true, false, List, [], ◌∷◌}
use Rattle.sheet.specs.Node.{Fields, field, next, next_by}

-- the test P passes at m siblings from j on
unfoldable pub siblings_by : (ℕ → Bool) → Fields → ℕ → ℕ → Bool
siblings_by P g zero j = true
siblings_by P g (suc m) j = elim (P j) [ true ↦ siblings_by P g m (next_by g j) | false ↦ false ]

-- of a sheet
abbrev pub siblings : (ℕ → Bool) → List ℕ → ℕ → ℕ → Bool
siblings P s = siblings_by P (field s)

-- the sibling m places after j
unfoldable pub skip_by : Fields → ℕ → ℕ → ℕ
skip_by g zero j = j
skip_by g (suc m) j = skip_by g m (next_by g j)

-- of a sheet; `unfolding skip` opens both
unfoldable abbrev pub skip : List ℕ → ℕ → ℕ → ℕ
unfolding skip_by
skip s = skip_by (field s)

-- m siblings from j on, in order
unfoldable pub sibling_list : List ℕ → ℕ → ℕ → List ℕ
sibling_list s zero j = []
sibling_list s (suc m) j = j ∷ sibling_list s m (next s j)
