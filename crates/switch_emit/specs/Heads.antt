-- The heads of the cases and of the bands, whose lists get a chain each. Definitions; assume nothing.
use Rattle.std.specs.Prelude.{ℕ, ◌+◌, ◌<◌, ◌≡◌, Bool, true, ◌&&◌, List, [], map, length, get_or, Option, leb}
use Rattle.switch_model.specs.Change.{any_tried}
use Rattle.switch_model.specs.Last.{last_of}
use Rattle.switch_tables.specs.Columns.{column}
use Rattle.switch_emit.specs.Ready.{Named}
use Rattle.switch_emit.specs.Parts.{is_at}

-- the lists ls are those of m heads, whose numbers stand in the cells from `at` on; they name blocks
pub record Heads (s w : List ℕ) (key : ℕ → List ℕ) (at m : ℕ) (ls : List (List ℕ)) : Type 0 where
  pub are : map key (column w at m) ≡ ls
  pub named : (i : ℕ) → i < length ls → Named s (get_or ls i [])

-- of the lists that have a guard to try, `dropped` is the last one, if jumps are dropped, and else none
abbrev pub LastDrops : List ℕ → Bool → Option ℕ → List (List ℕ) → Type 0
LastDrops s falls dropped ls =
    (i : ℕ) → i < length ls → any_tried s (get_or ls i []) ≡ true
    → is_at dropped i ≡ (falls && leb (last_of (λ q. any_tried s (get_or ls q [])) (length ls)) (i + 1))
