-- What a need means for every lowering of its sheet: with an image of i words and a scratch of m.
use Rattle.std.specs.Prelude.{ℕ, ◌+◌, ◌*◌, ◌≤◌, ◌<◌, ◌≡◌, true, List, Ok, Err}
use Rattle.refusals.specs.declared.Refusal.{Refusal}
use Rattle.refusals.specs.declared.Refusal.TheVariants.{ScratchShort, ImageLong}
use Rattle.refusals.specs.Refusal.{of_sheet}
use Rattle.sheet.specs.Limits.{max_nodes}
use Rattle.lowering.specs.Limits.{max_emitted, scratch_per_emitted, scratch_per_node, scratch_besides}
use Rattle.lowering.specs.Outcome.{refused, outcome}
use Rattle.needs.specs.Needed.{Need}

-- words of scratch that are enough for every sheet
abbrev pub scratch_most : ℕ
scratch_most = scratch_per_emitted * max_emitted + scratch_per_node * max_nodes + scratch_besides

-- a refusal of the sheet's own meets every lowering; with w words of scratch, 11 is the outcome where fewer are
-- lent, and else no refusal but 12
pub data Means (s : List ℕ) : Need → Type 0 where
  refuses : {r : Refusal} → of_sheet r ≡ true → ((i m : ℕ) → outcome s i m ≡ refused r) → Means s (Err r)
  asks : {w : ℕ} → w ≤ scratch_most → ((i m : ℕ) → m < w → outcome s i m ≡ refused ScratchShort)
      → ((i m : ℕ) (r : Refusal) → w ≤ m → outcome s i m ≡ refused r → r ≡ ImageLong) → Means s (Ok w)
