-- The numbers of a row stand where the table of numbers has those of its kind.
use Prim.Native.Nat.{ℕ, zero, suc, ◌+◌, ◌*◌, ◌<◌}
use mathlib.Core.Path.{◌≡◌, refl, ap, sym, ◌∙◌}
use mathlib.Core.List.{List, [], ◌∷◌}
use native.Mathlib.Omega.{arith}
use lib.ListN.{get_or}
use Rattle.check_shape.specs.Kinds.{bound_words, bounds, bound}
use Rattle.check_shape.specs.Rows.{row, numbers}
use Rattle.check_shape.specs.declared.Bounds.{Bounds}

abbrev pub leaf : Bounds
leaf = record { least = 0; most = 0; a = 0; b = 0; c = 0 }

nothing : (f : ℕ) → 0 ≡ get_or (row leaf) f 0
nothing zero = refl
nothing (suc zero) = refl
nothing (suc (suc zero)) = refl
nothing (suc (suc (suc zero))) = refl
nothing (suc (suc (suc (suc zero)))) = refl
nothing (suc (suc (suc (suc (suc f))))) = refl

front : (r : Bounds) (rs : List Bounds) (f : ℕ) → f < 5 → get_or (numbers (r ∷ rs)) f 0 ≡ get_or (row r) f 0
unfolding numbers
front r rs zero h = refl
front r rs (suc zero) h = refl
front r rs (suc (suc zero)) h = refl
front r rs (suc (suc (suc zero))) h = refl
front r rs (suc (suc (suc (suc zero)))) h = refl
front r rs (suc (suc (suc (suc (suc f))))) h = absurd (omega arith)

behind : (r : Bounds) (rs : List Bounds) (i : ℕ) → get_or (numbers (r ∷ rs)) (suc (suc (suc (suc (suc i))))) 0 ≡ get_or (numbers rs) i 0
unfolding numbers
behind r rs i = refl

past : (i : ℕ) → get_or (numbers []) i 0 ≡ 0
unfolding numbers
past i = refl

-- number f of row k
pub row-at : (rs : List Bounds) (k f : ℕ) → f < 5 → get_or (numbers rs) (bound_words * k + f) 0 ≡ get_or (row (get_or rs k leaf)) f 0
row-at [] k f h = past (bound_words * k + f) ∙ nothing f
row-at (r ∷ rs) zero f h = ap (λ i. get_or (numbers (r ∷ rs)) i 0) (omega arith) ∙ front r rs f h
row-at (r ∷ rs) (suc k) f h =
    let next : bound_words * suc k + f ≡ suc (suc (suc (suc (suc (bound_words * k + f))))) = omega arith in
    ap (λ i. get_or (numbers (r ∷ rs)) i 0) next ∙ behind r rs (bound_words * k + f) ∙ row-at rs k f h

-- the definition's bounds, row by row
abbrev pub rows_of : List ℕ → List Bounds
rows_of (l ∷ m ∷ a ∷ b ∷ c ∷ ns) = record { least = l; most = m; a = a; b = b; c = c } ∷ rows_of ns
rows_of _ = []

-- number f of a row that was read from them
pub bound-row : (k : ℕ) {r : Bounds} → r ≡ get_or (rows_of bounds) k leaf → (f : ℕ) → f < 5 → get_or (row r) f 0 ≡ bound k f
unfolding bound numbers
bound-row k h f l = ap (λ x. get_or (row x) f 0) h ∙ sym (row-at (rows_of bounds) k f l)
