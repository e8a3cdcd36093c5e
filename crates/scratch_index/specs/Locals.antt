-- The local of each Variable, in the slot of its node, where the sheet has many locals.
use Rattle.std.specs.Prelude.{◌≡◌, ℕ, ◌+◌, ◌<◌, List, slice_index}
use Rattle.std.proofs.Math.Option.{Option, none, some}
use Rattle.sheet.specs.Sections.{local_count}
use Rattle.sheet.specs.Node.{kind, field_a}
use Rattle.sheet.specs.Text.{text}
use Rattle.lowering.specs.Kinds.{variable_kind}
use Rattle.lowering.specs.Slots.{resolve}
use Rattle.scratch.specs.declared.Layout.{Layout}
use Rattle.scratch.specs.Places.{links_at}
use Rattle.scratch_index.specs.Consts.{const_slot}

-- with so many locals or fewer they are gone through at each use
abbrev pub few_locals : ℕ
few_locals = 32

-- a local's number plus 1, 0 for none
unfoldable pub slot_word : Option ℕ → ℕ
slot_word none = 0
slot_word (some k) = k + 1

-- what stands in the slot of Variable j
abbrev pub local_word : List ℕ → ℕ → ℕ
local_word s j = slot_word (resolve s (text s (field_a s j)))

-- every Variable has its local
pub record Slotted (s : List ℕ) (l : Layout) (xs : List ℕ) : Type 0 where
  pub slot : (j : ℕ) → j < l.nodes → kind s j ≡ variable_kind → slice_index xs (links_at l + const_slot j) ≡ local_word s j

pub record Slots (s : List ℕ) (l : Layout) (xs : List ℕ) : Type 0 where
  pub many : few_locals < local_count s → Slotted s l xs
