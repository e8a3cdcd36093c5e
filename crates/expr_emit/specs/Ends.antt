-- Where the code of a node ends.
use Rattle.std.specs.Prelude.{◌≡◌, ℕ, ◌+◌, ◌%◌, ◌^◌, min, List}
use Rattle.sheet.specs.Sections.{node_count}
use Rattle.expr_count.specs.Limits.{cap}
use Rattle.expr_count.specs.Count.{tally}
use Rattle.scratch_index.specs.Locals.{Slots}
use Rattle.scratch_store.specs.declared.State.{State}
use Rattle.scratch_store.specs.States.{layout_of}

-- behind the code of node j, which starts at place code, as a word
abbrev pub end_place : ℕ → List ℕ → ℕ → ℕ → ℕ
end_place levels s code j = (code + min (tally levels s j).len cap) % 2 ^ 32

-- r is the place behind the code of node j, which is next, where the scratch has the local of each Variable
pub record EndsAt (levels : ℕ) (s xs : List ℕ) (st : State) (j r : ℕ) : Type 0 where
  pub is : st.layout.nodes ≡ node_count s → Slots s (layout_of st) xs → r ≡ end_place levels s st.code j
