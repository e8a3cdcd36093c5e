-- The split of the ranges into table entries, each with the blocks of the ranges that cover it, in source order. The first entry that
-- contains an integer counts. An entry that starts in a gap, above a point but without it, is written with that point as its start: the
-- point has an entry before it.
use Rattle.std.specs.Prelude.{ℕ, Bool, true, false, ◌&&◌, List, [], ◌∷◌, map, leb}
use Rattle.std.proofs.Math.Option.{Option, none, some}
use Rattle.text.specs.Same.{same}
use Rattle.switch_split.specs.Range.{Range, inside, contains, blocks_where}
use Rattle.switch_split.specs.Points.{cuts}

pub record Entry : Type 0 where
  pub from : ℕ
  pub to : ℕ
  pub inclusive : Bool
  pub blocks : List ℕ

abbrev pub holds : Entry → ℕ → Bool
holds e x = inside e.from e.to e.inclusive x

-- the blocks of the first entry that contains x
unfoldable pub first_match : List Entry → ℕ → List ℕ
first_match [] x = []
first_match (e ∷ es) x = elim (holds e x) [ true ↦ e.blocks | false ↦ first_match es x ]

-- a piece of the number line: a point where it is cut, or all strictly between two neighbouring points
pub data Atom : Type 0 where
  point : ℕ → Atom
  between : ℕ → ℕ → Atom

-- each point, and what lies between it and the next; p is the first
unfoldable pub atoms_from : ℕ → List ℕ → List Atom
atoms_from p [] = point p ∷ []
atoms_from p (q ∷ ps) = point p ∷ between p q ∷ atoms_from q ps

unfoldable pub atoms : List ℕ → List Atom
atoms [] = []
atoms (p ∷ ps) = atoms_from p ps

-- a range has the whole of a piece or nothing of it, since both its ends are points
unfoldable pub covers : Atom → Range → Bool
covers (point p) r = contains r p
covers (between p q) r = leb r.from p && leb q r.to

-- a piece as an entry: a point is inclusive, the stretch after it exclusive
unfoldable pub piece : List Range → Atom → Entry
piece rs (point p) = record { from = p; to = p; inclusive = true; blocks = blocks_where (covers (point p)) rs }
piece rs (between p q) = record { from = p; to = q; inclusive = false; blocks = blocks_where (covers (between p q)) rs }

-- e taken up at the end of band
abbrev pub stretch : Entry → Entry → Entry
stretch band e = record { from = band.from; to = e.to; inclusive = e.inclusive; blocks = band.blocks }

-- e starts a band, unless it has no blocks
unfoldable pub opened : Entry → List ℕ → Option Entry
opened e [] = none
opened e (b ∷ bs) = some e

-- neighbours with equal block lists as one entry; band is the entry that is still open
unfoldable pub join : Option Entry → List Entry → List Entry
join none [] = []
join (some band) [] = band ∷ []
join none (e ∷ es) = join (opened e e.blocks) es
join (some band) (e ∷ es) =
    elim (same band.blocks e.blocks) [ true ↦ join (some (stretch band e)) es | false ↦ band ∷ join (opened e e.blocks) es ]

unfoldable pub pieces : List Range → List Entry
pieces rs = map (piece rs) (atoms (cuts rs))

unfoldable pub split : List Range → List Entry
split rs = join none (pieces rs)
