-- The heads of the cases and of the bands: what a pass over their lists asks that lays the chain of each. Definitions; assume nothing.
use Rattle.std.specs.Prelude.{ℕ, ◌+◌, ◌<◌, ◌≤◌, ◌≡◌, List, [], map, length, get_or}
use Rattle.sheet.specs.Limits.{max_entries}
use Rattle.lowering.specs.All.{All}
use Rattle.lowering.specs.SwitchSheet.{block_count}
use Rattle.switch_tables.specs.Columns.{size, case_heads_at, wanted_at, case_place_at, cell, column, Within}
use Rattle.switch_places.specs.declared.heads.Heads.{Heads}

-- where chains are laid: a column of places, one of exits, and the cells that change, from `lo` up to `hi`
pub record Area : Type 0 where
  pub at : ℕ
  pub out : ℕ
  pub lo : ℕ
  pub hi : ℕ

-- of m cells each, within cells that have the wanted blocks or stand before them
pub record Columns (A : Area) (m : ℕ) : Type 0 where
  pub order : A.at + m ≤ A.out
  pub inside : A.out + m ≤ size
  pub from : A.lo ≤ A.at
  pub to : A.out + m ≤ A.hi
  pub wants-from : A.lo ≤ wanted_at
  pub wants-to : case_place_at ≤ A.hi
  pub clear : (k q : ℕ) → k < max_entries → q < m → (wanted_at + k ≡ A.at + q → ⊥) × (wanted_at + k ≡ A.out + q → ⊥)

-- of heads, with the cells that change
abbrev pub area_of : Heads → ℕ → ℕ → Area
area_of h lo hi = record { at = h.places; out = h.exits; lo = lo; hi = hi }

-- the heads of the table w stand before the cells that change; their lists, by key, are ls, and name blocks
pub record HeadsIn (s w : List ℕ) (key : ℕ → List ℕ) (h : Heads) (lo hi : ℕ) (ls : List (List ℕ)) : Type 0 where
  pub are : map key (column w h.nodes (cell w h.count)) ≡ ls
  pub named : (i : ℕ) → i < length ls → All (λ k. k < block_count s) (get_or ls i [])
  pub few : cell w h.count ≤ h.most
  pub low : case_heads_at ≤ lo
  pub behind : h.nodes + h.most ≤ lo
  pub columns : Columns (area_of h lo hi) h.most

-- lists stay as they are in the table w while only these cells change
pub record ListsStay (known : List ℕ → Type 0) (list_of : List ℕ → ℕ → List ℕ) (w : List ℕ) (lo hi : ℕ) : Type 0 where
  pub known_still : (v : List ℕ) → Within lo hi w v → known v
  pub same : (v : List ℕ) (x : ℕ) → Within lo hi w v → list_of v x ≡ list_of w x
