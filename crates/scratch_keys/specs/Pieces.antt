-- Bytes in pieces, one behind the other, and other bytes that lie over them: where they lie over a piece, the bytes are the same.
use Rattle.std.specs.Prelude.{ℕ, ◌+◌, ◌-◌, Bool, true, false, List, [], ◌∷◌, ◌++◌, eqb, length, take, drop}
use Rattle.text.specs.Same.{same}
use Rattle.sheet.specs.Text.{text}
use Rattle.lowering.specs.Pools.{bang, separator}

unfoldable pub joined : List (List ℕ) → List ℕ
joined [] = []
joined (p ∷ ps) = p ++ joined ps

-- the pieces of a name: its namespace's text, the separator, its text, and `!`
abbrev pub pieces : List ℕ → List ℕ → List ℕ → List ℕ → List (List ℕ)
pieces space separator text bang = space ∷ separator ∷ text ∷ bang ∷ []

-- p, from place `at` on, and q, from place `to` on, where they lie over each other
unfoldable pub overlap : List ℕ → ℕ → List ℕ → ℕ → Bool
overlap p at q to =
    same (take (length q - (at - to)) (drop (to - at) p)) (take (length p - (to - at)) (drop (at - to) q))

-- p, from place `at` on, over pieces from place `to` on
unfoldable pub over : List ℕ → ℕ → ℕ → List (List ℕ) → Bool
over p at to [] = true
over p at to (q ∷ qs) = elim (overlap p at q to) [ true ↦ over p at (to + length q) qs | false ↦ false ]

-- what a namespace (its text plus 1, or 0) puts before a name, in two pieces
unfoldable pub space_of : List ℕ → ℕ → List ℕ
space_of s w = elim (eqb w 0) [ true ↦ [] | false ↦ text s (w - 1) ]

unfoldable pub separator_of : ℕ → List ℕ
separator_of w = elim (eqb w 0) [ true ↦ [] | false ↦ separator ]

-- `!`, or nothing
unfoldable pub bang_of : Bool → List ℕ
bang_of m = elim m [ true ↦ bang ∷ [] | false ↦ [] ]
