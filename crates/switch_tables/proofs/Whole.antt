-- What the code reads of an accepted switch, in the words of the definition of the lowering.
use Prim.Native.Nat.{ℕ, zero, suc, ◌/◌, ◌%◌, ◌+◌, ◌<◌}
use mathlib.Core.Path.{◌≡◌, refl, sym, ◌∙◌, ap}
use mathlib.Core.Bool.{Bool, true, false}
use mathlib.Core.List.{List, ◌∷◌, map}
use native.Mathlib.Omega.{arith}
use lib.ListN.{get_or}
use lib.Dec.{eqb}
use borrow.Author.Tests.{eq-eqb, ne_eqb}
use Rattle.sheet.specs.Node.{kind, next}
use Rattle.sheet.specs.Walk.{skip}
use Rattle.check_switches.specs.Switch.{case_count, first_case}
use Rattle.checks.specs.Checked.{verdict_number, checked}
use Rattle.switch_split.specs.Points.{cuts}
use Rattle.switch_split.specs.Range.{Range, blocks_where}
use Rattle.switch_split.specs.Split.{piece, covers, split}
use Rattle.switch_split.specs.Piece.{cut_at, atom_at}
use Rattle.lowering.specs.Kinds.{switch_kind}
use Rattle.lowering.specs.SwitchSheet.{nodes_from, cases_of, case_blocks, ranges_of}
use Rattle.switch_tables.specs.Bands.{Band}
use Rattle.switch_tables.proofs.NodesLaws.{nodes-at, cases-are}
use Rattle.switch_tables.proofs.Accepted.{cases_whole, blocks-whole}
use Rattle.switch_tables.specs.Bands.{piece_at, entry_of, joined}
use Rattle.switch_tables.proofs.BandsLaws.{piece-has, joined-split}
use Rattle.switch_tables.specs.Heads.{case_key}
use Rattle.switch_tables.specs.Table.{case_keys}

-- ---- the lists of the cases

map-nodes : {B : Type 0} (f g : ℕ → B) (s : List ℕ) (n j : ℕ) → ((i : ℕ) → i < n → f (skip s i j) ≡ g (skip s i j))
    → map f (nodes_from s n j) ≡ map g (nodes_from s n j)
unfolding nodes_from skip
map-nodes f g s zero j h = refl
map-nodes f g s (suc n) j h =
    ap (λ x. x ∷ map f (nodes_from s n (next s j))) (h 0 (omega arith))
    ∙ ap (λ r. g j ∷ r) (map-nodes f g s n (next s j) (λ i l. h (suc i) (omega arith)))

-- Case i, by number
pub case_at : (s : List ℕ) (i : ℕ) → i < case_count s → get_or (cases_of s) i 0 ≡ skip s i (first_case s)
case_at s i h = ap (λ (l : List ℕ). get_or l i 0) (cases-are s) ∙ nodes-at s (case_count s) (first_case s) i h

module _ (s : List ℕ) (h : verdict_number (checked s) ≡ 0) (k : kind s 0 ≡ switch_kind) where
  -- the lists of `case_heads` are those that get a chain
  pub case-keys : case_keys s ≡ map (case_blocks s) (cases_of s)
  case-keys =
      ap (map (case_key s)) (cases_whole s h k ∙ cases-are s)
      ∙ map-nodes (case_key s) (case_blocks s) s (case_count s) (first_case s) (blocks-whole s h k)
      ∙ ap (map (case_blocks s)) (sym (cases-are s))

  -- the bands are the split
  pub split-all : (rs : List Range) (cs : List ℕ) → rs ≡ ranges_of s → cs ≡ cuts rs → joined rs cs ≡ split (ranges_of s)
  split-all rs cs e q = joined-split rs cs q ∙ ap split e

-- ---- the lists of the bands

-- the list of a band is that of its first piece
pub band-list : (rs : List Range) (cs : List ℕ) (x : Band) → (entry_of rs cs x).blocks ≡ blocks_where (covers (atom_at cs x.first)) rs
unfolding entry_of
band-list rs cs x = piece-has rs (atom_at cs x.first)

-- ---- the ends of a band

module _ (rs : List Range) (cs : List ℕ) (x : Band) where
  pub band-low : cut_at cs (x.first / 2) ≡ (entry_of rs cs x).from
  unfolding entry_of atom_at piece
  band-low = by (eqb (x.first % 2) 0) refl
    where
      by : (t : Bool) → eqb (x.first % 2) 0 ≡ t → cut_at cs (x.first / 2) ≡ (piece_at rs cs x.first).from
      by true e = rw (e, atom_at) refl
      by false e = rw (e, atom_at) refl

  pub band-high-point : x.last % 2 ≡ 0 → cut_at cs (x.last / 2) ≡ (entry_of rs cs x).to
  unfolding entry_of atom_at piece
  band-high-point e = rw (eq-eqb (x.last % 2) 0 e, atom_at) refl

  pub band-high-gap : (x.last % 2 ≡ 0 → ⊥) → cut_at cs (x.last / 2 + 1) ≡ (entry_of rs cs x).to
  unfolding entry_of atom_at piece
  band-high-gap e = rw (ne_eqb (x.last % 2) 0 e, atom_at) refl

  pub band-closed : eqb (x.last % 2) 0 ≡ (entry_of rs cs x).inclusive
  unfolding entry_of atom_at piece
  band-closed = by (eqb (x.last % 2) 0) refl
    where
      by : (t : Bool) → eqb (x.last % 2) 0 ≡ t → eqb (x.last % 2) 0 ≡ (piece_at rs cs x.last).inclusive
      by true e = rw (e, atom_at) refl
      by false e = rw (e, atom_at) refl
