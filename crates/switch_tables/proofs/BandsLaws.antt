-- Joining pieces to the entries of the split, piece by piece: what is left of it, by the band that is open before a piece.
use Prim.Native.Nat.{ℕ, zero, suc, ◌+◌, ◌-◌, ◌≤◌, ◌<◌}
use mathlib.Core.Path.{◌≡◌, refl, sym, ◌∙◌, ap}
use mathlib.Core.Bool.{true, false}
use mathlib.Core.List.{List, [], ◌∷◌, map}
use mathlib.Core.Option.{none, some}
use native.Mathlib.Omega.{arith}
use native.Mathlib.Numerals.{add-one}
use lib.Dec.{ltb}
use lib.ListN.{length, drop, length-append, drop_of_length-le}
use lib.Seq.{drop-cons}
use borrow.Author.Tests.{lt-ltb, le-ltb}
use Rattle.text.proofs.SameLaws.{same_refl, same_false}
use Rattle.switch_split.specs.Points.{cuts}
use Rattle.switch_split.specs.Range.{Range, blocks_where}
use Rattle.switch_split.specs.Split.{Entry, Atom, point, between, atoms, covers, piece, opened, join, pieces, split}
use Rattle.switch_split.proofs.JoinLaws.{join-same, join-other}
use Rattle.switch_split.proofs.PieceLaws.{atoms-at}
use Rattle.switch_tables.specs.Bands.{Band, piece_at, entry_of, joined, band_at, bands_in}

-- a band from piece a to piece b
abbrev pub band-of : ℕ → ℕ → Band
band-of a b = record { first = a; last = b }

pub piece-has : (rs : List Range) (a : Atom) → (piece rs a).blocks ≡ blocks_where (covers a) rs
unfolding piece
piece-has rs (point p) = refl
piece-has rs (between p q) = refl

module _ (rs : List Range) (cs : List ℕ) where
  -- for the cuts of the ranges the entries are the split
  pub joined-split : cs ≡ cuts rs → joined rs cs ≡ split rs
  unfolding joined split pieces
  joined-split e = ap (λ (l : List ℕ). join none (map (piece rs) (atoms l))) e

  -- the pieces from i on
  abbrev pub pieces_from : ℕ → List Entry
  pieces_from i = map (piece rs) (drop i (atoms cs))

  pieces-cons : (i : ℕ) → i < length (atoms cs) → pieces_from i ≡ piece_at rs cs i ∷ pieces_from (i + 1)
  pieces-cons i h =
      ap (map (piece rs)) (drop-cons (atoms cs) i (point 0) h)
      ∙ ap (λ (a : Atom). piece rs a ∷ map (piece rs) (drop (suc i) (atoms cs))) (atoms-at cs (point 0) i h)
      ∙ ap (λ (j : ℕ). piece_at rs cs i ∷ pieces_from j) (sym (add-one i))

  -- what joining makes of them, where the band from piece `band` on is open if band is below i
  unfoldable pub join_from : ℕ → ℕ → List Entry
  join_from band i = elim (ltb band i) [
    | true ↦ join (some (entry_of rs cs (band-of band (i - 1)))) (pieces_from i)
    | false ↦ join none (pieces_from i)
  ]

  -- and of those behind piece i, where none was open before it
  abbrev pub join_behind : ℕ → List Entry
  join_behind i = join (opened (piece_at rs cs i) (piece_at rs cs i).blocks) (pieces_from (i + 1))

  pub joins-all : join_from 0 0 ≡ joined rs cs
  unfolding join_from joined
  joins-all = refl

  module _ (band i : ℕ) where
    join-open : band < i → join_from band i ≡ join (some (entry_of rs cs (band-of band (i - 1)))) (pieces_from i)
    unfolding join_from
    join-open h = rw (lt-ltb band i h, join_from)

    join-closed : i ≤ band → join_from band i ≡ join none (pieces_from i)
    unfolding join_from
    join-closed h = rw (le-ltb band i h, join_from)

    -- piece i belongs to the band
    pub join-stays : band < i → i < length (atoms cs) → (piece_at rs cs i).blocks ≡ (piece_at rs cs band).blocks
        → join_from band i ≡ join_from band (i + 1)
    unfolding entry_of join_from
    join-stays h l e =
        let back : i + 1 - 1 ≡ i = omega arith in
        let it = entry_of rs cs (band-of band (i - 1)) in
        join-open h
        ∙ ap (join (some it)) (pieces-cons i l)
        ∙ join-same it (piece_at rs cs i) (pieces_from (i + 1)) (rw e (same_refl (piece_at rs cs band).blocks))
        ∙ sym (rw (lt-ltb band (i + 1) (omega arith), join_from, back) refl)

    -- it does not, and the band ends
    pub join-ends : band < i → i < length (atoms cs) → ((piece_at rs cs i).blocks ≡ (piece_at rs cs band).blocks → ⊥)
        → join_from band i ≡ entry_of rs cs (band-of band (i - 1)) ∷ join_behind i
    unfolding entry_of
    join-ends h l ne =
        let it = entry_of rs cs (band-of band (i - 1)) in
        join-open h
        ∙ ap (join (some it)) (pieces-cons i l)
        ∙ join-other it (piece_at rs cs i) (pieces_from (i + 1))
        (same_false (piece_at rs cs band).blocks (piece_at rs cs i).blocks (λ e. ne (sym e)))

    -- no band is open
    pub join-none : i ≤ band → i < length (atoms cs) → join_from band i ≡ join_behind i
    unfolding join
    join-none h l = join-closed h ∙ ap (join none) (pieces-cons i l)

    -- no piece is left
    pub join_last : band < i → length (atoms cs) ≤ i → join_from band i ≡ entry_of rs cs (band-of band (i - 1)) ∷ []
    unfolding join
    join_last h l = rw (drop_of_length-le (atoms cs) {i = i} l) at (join-open h)

    pub join-done : i ≤ band → length (atoms cs) ≤ i → join_from band i ≡ []
    unfolding join
    join-done h l = rw (drop_of_length-le (atoms cs) {i = i} l) at (join-closed h)

  -- piece i starts a band, unless it has no blocks
  module _ (i : ℕ) where
    pub join-skips : (piece_at rs cs i).blocks ≡ [] → join_behind i ≡ join_from (i + 1) (i + 1)
    unfolding opened
    join-skips e = rw e (sym (join-closed (i + 1) (i + 1) (omega arith)))

    pub join-opens : ((piece_at rs cs i).blocks ≡ [] → ⊥) → join_behind i ≡ join_from i (i + 1)
    unfolding opened entry_of
    join-opens ne = by (piece_at rs cs i).blocks ne
      where
        by : (bs : List ℕ) → (bs ≡ [] → ⊥) → join (opened (piece_at rs cs i) bs) (pieces_from (i + 1)) ≡ join_from i (i + 1)
        by [] n = absurd (n refl)
        by (b ∷ bs) n =
            let back : i + 1 - 1 ≡ i = omega arith in
            sym (join-open i (i + 1) (omega arith) ∙ rw back refl)

-- a band for each number
pub bands-length : (w : List ℕ) (n : ℕ) → length (bands_in w n) ≡ n
unfolding bands_in
bands-length w zero = refl
bands-length w (suc n) = omega (arith, length-append (bands_in w n) (band_at w n ∷ []), bands-length w n)
