-- A fact of each block that a list names is one of each block in the distinct lists and in the split entries.
use Prim.Native.Nat.{ℕ}
use mathlib.Core.Path.{◌≡◌, refl}
use mathlib.Core.Bool.{Bool, true, false}
use mathlib.Core.Option.{Option, none, some}
use mathlib.Core.List.{List, [], ◌∷◌, map}
use Rattle.text.specs.Same.{same}
use Rattle.switch_split.specs.Range.{Range, blocks_where}
use Rattle.switch_split.specs.Points.{cuts}
use Rattle.switch_split.specs.Split.{Atom, point, between, atoms, covers, piece, stretch, opened, join, pieces, split}
use Rattle.switch_split.specs.Split as Split
use Rattle.lowering.specs.All.{All}
use Rattle.lowering.specs.Arms.{member_of, distinct_from, distinct}
use Rattle.switch_model.proofs.SameLaws.{AllIn}

module _ (P : ℕ → Type 0) where
  -- ---- distinct lists

  from_all : (met ls : List (List ℕ)) → AllIn P ls → AllIn P (distinct_from met ls)
  unfolding distinct_from
  from_all met [] h = tt
  from_all met (l ∷ ls) h = by (member_of l met) refl (λ m. from_all m ls h.1)
    where
      by : (t : Bool) → member_of l met ≡ t → ((m : List (List ℕ)) → AllIn P (distinct_from m ls)) → AllIn P (distinct_from met (l ∷ ls))
      by true e more = rw (e, distinct_from) (more met)
      by false e more = rw (e, distinct_from) (h.0, more (l ∷ met))

  pub distinct-all : (ls : List (List ℕ)) → AllIn P ls → AllIn P (distinct ls)
  unfolding distinct
  distinct-all ls h = from_all [] ls h

  -- ---- ranges

  abbrev pub AllRanges : List Range → Type 0
  AllRanges [] = Prim.Unit {0}
  AllRanges (r ∷ rs) = P r.block × AllRanges rs

  abbrev pub AllEntries : List Split.Entry → Type 0
  AllEntries [] = Prim.Unit {0}
  AllEntries (e ∷ es) = All P e.blocks × AllEntries es

  where-all : (f : Range → Bool) (rs : List Range) → AllRanges rs → All P (blocks_where f rs)
  unfolding blocks_where
  where-all f [] h = tt
  where-all f (r ∷ rs) h = by (f r) refl (where-all f rs h.1)
    where
      by : (t : Bool) → f r ≡ t → All P (blocks_where f rs) → All P (blocks_where f (r ∷ rs))
      by true e more = rw (e, blocks_where) (h.0, more)
      by false e more = rw (e, blocks_where) more

  module _ (rs : List Range) (h : AllRanges rs) where
    piece-all : (x : Atom) → All P (piece rs x).blocks
    unfolding piece
    piece-all (point p) = where-all (covers (point p)) rs h
    piece-all (between p q) = where-all (covers (between p q)) rs h

    pieces-all : (xs : List Atom) → AllEntries (map (piece rs) xs)
    pieces-all [] = tt
    pieces-all (x ∷ xs) = (piece-all x, pieces-all xs)

  abbrev Open : Option Split.Entry → Type 0
  Open none = Prim.Unit {0}
  Open (some e) = All P e.blocks

  opened-all : (e : Split.Entry) (bs : List ℕ) → All P e.blocks → Open (opened e bs)
  unfolding opened
  opened-all e [] h = tt
  opened-all e (b ∷ bs) h = h

  join-all : (o : Option Split.Entry) (es : List Split.Entry) → Open o → AllEntries es → AllEntries (join o es)
  unfolding join
  join-all none [] g h = tt
  join-all (some run) [] g h = (g, tt)
  join-all none (e ∷ es) g h = join-all (opened e e.blocks) es (opened-all e e.blocks h.0) h.1
  join-all (some run) (e ∷ es) g h =
      by (same run.blocks e.blocks) refl (join-all (some (stretch run e)) es g h.1)
      (join-all (opened e e.blocks) es (opened-all e e.blocks h.0) h.1)
    where
      by : (t : Bool) → same run.blocks e.blocks ≡ t → AllEntries (join (some (stretch run e)) es)
          → AllEntries (join (opened e e.blocks) es) → AllEntries (join (some run) (e ∷ es))
      by true q on off = rw (q, join) on
      by false q on off = rw (q, join) (g, off)

  split-all : (rs : List Range) → AllRanges rs → AllEntries (split rs)
  unfolding split pieces
  split-all rs h = join-all none (pieces rs) tt (pieces-all rs h (atoms (cuts rs)))

  entries-lists : (es : List Split.Entry) → AllEntries es → AllIn P (map (λ (x : Split.Entry). x.blocks) es)
  entries-lists [] h = tt
  entries-lists (e ∷ es) h = (h.0, entries-lists es h.1)

  -- the lists of the split entries
  pub split-lists : (rs : List Range) → AllRanges rs → AllIn P (distinct (map (λ (x : Split.Entry). x.blocks) (split rs)))
  split-lists rs h = distinct-all (map (λ (x : Split.Entry). x.blocks) (split rs)) (entries-lists (split rs) (split-all rs h))
