-- The entries of a split as bands of pieces: a band is the pieces from its first to its last, which have equal lists of blocks.
use Rattle.std.specs.Prelude.{ℕ, zero, suc, ◌+◌, List, [], ◌∷◌, ◌++◌, map}
use Rattle.std.proofs.Math.Option.{none}
use Rattle.switch_split.specs.Range.{Range}
use Rattle.switch_split.specs.Split.{Entry, atoms, piece, stretch, join}
use Rattle.switch_split.specs.Piece.{atom_at}
use Rattle.switch_tables.specs.Columns.{cell, band_first_at, band_last_at}

pub record Band : Type 0 where
  pub first : ℕ
  pub last : ℕ

-- piece j of the cuts cs
abbrev pub piece_at : List Range → List ℕ → ℕ → Entry
piece_at rs cs j = piece rs (atom_at cs j)

-- from the low end of a band's first piece to the high end of its last, with the blocks of the first
unfoldable pub entry_of : List Range → List ℕ → Band → Entry
entry_of rs cs x = stretch (piece_at rs cs x.first) (piece_at rs cs x.last)

-- band i of the flat table, and the first n
abbrev pub band_at : List ℕ → ℕ → Band
band_at w i = record { first = cell w (band_first_at + i); last = cell w (band_last_at + i) }

unfoldable pub bands_in : List ℕ → ℕ → List Band
bands_in w zero = []
bands_in w (suc n) = bands_in w n ++ (band_at w n ∷ [])

-- the pieces of the cuts cs, joined; for the cuts of rs this is the split
unfoldable pub joined : List Range → List ℕ → List Entry
joined rs cs = join none (map (piece rs) (atoms cs))
