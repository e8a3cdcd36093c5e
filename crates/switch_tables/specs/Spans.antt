-- A range as an interval of piece numbers: from its first piece up to, and without, the piece behind its last. Definitions; assume nothing.
use Rattle.std.specs.Prelude.{ℕ, ◌+◌, ◌*◌, Bool, true, false, ◌&&◌, ◌||◌, List, [], ◌∷◌, leb, ltb, eqb}
use Rattle.switch_split.specs.Range.{Range}
use Rattle.switch_tables.specs.Place.{place}

pub record Span : Type 0 where
  pub first : ℕ
  pub behind : ℕ
  pub block : ℕ

abbrev pub one_if : Bool → ℕ
one_if true = 1
one_if false = 0

-- the point of the start is even; an inclusive range takes the point of its end, any other stops before it
abbrev pub span_of : List ℕ → Range → Span
span_of cs r = record { first = 2 * place cs r.from; behind = 2 * place cs r.to + one_if r.inclusive; block = r.block }

abbrev pub covered : Span → ℕ → Bool
covered x j = leb x.first j && ltb j x.behind

-- the blocks of the spans that cover piece j, in source order
unfoldable pub blocks_at : ℕ → List Span → List ℕ
blocks_at j [] = []
blocks_at j (x ∷ xs) = elim (covered x j) [ true ↦ x.block ∷ blocks_at j xs | false ↦ blocks_at j xs ]

-- some span starts or ends at piece j
unfoldable pub changes_at : ℕ → List Span → Bool
changes_at j [] = false
changes_at j (x ∷ xs) = (eqb x.first j || eqb x.behind j) || changes_at j xs
