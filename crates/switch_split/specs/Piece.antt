-- Piece j of the cuts, by its number: the points are the even ones, and what lies after a point is the next.
use Rattle.std.specs.Prelude.{ℕ, ◌+◌, ◌/◌, ◌%◌, ◌^◌, true, false, List, eqb, get_or}
use Rattle.switch_split.specs.Split.{Atom, point, between}

-- cut i; the integer 0 where there is none
abbrev pub cut_at : List ℕ → ℕ → ℕ
cut_at cs i = get_or cs i (2 ^ 63)

unfoldable pub atom_at : List ℕ → ℕ → Atom
atom_at cs j = elim (eqb (j % 2) 0) [ true ↦ point (cut_at cs (j / 2)) | false ↦ between (cut_at cs (j / 2)) (cut_at cs (j / 2 + 1)) ]
