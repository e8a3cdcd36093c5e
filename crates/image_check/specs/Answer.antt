-- The answer of the image check, and what it leaves in the lent scratch.
use Rattle.std.specs.Prelude.{ℕ, ◌≤◌, ◌<◌, ◌≡◌, true, false, List, ltb, length, Ok, Err}
use Rattle.refusals.specs.declared.Refusal.{Refusal}
use Rattle.refusals.specs.declared.Refusal.TheVariants.{ScratchShort, IllMade}
use Rattle.refusals.specs.Refusal.{zeroed, leaves, scratch_left}
use Rattle.checks.specs.Checked.{checked, Verdict}
use Rattle.image_rule.specs.WellMade.{WellMade}
use Rattle.image_rule.specs.Test.{well_made}

-- the answer, where v is that of the sheet's check: one of 1 to 8; then 11; then 13; else nothing refuses
unfoldable pub judged_after : Verdict → List ℕ → List ℕ → ℕ → Verdict
judged_after (Ok x) s w room =
    elim (ltb room (length w)) [
      | true ↦ Err ScratchShort
      | false ↦ elim (well_made s w) [ true ↦ Ok tt | false ↦ Err IllMade ]
    ]
judged_after (Err r) s w room = Err r

unfoldable pub judged : List ℕ → List ℕ → ℕ → Verdict
judged s w room = judged_after (checked s) s w room

-- the scratch is what the refusal leaves of it, and is zeroed where nothing refuses
unfoldable pub scratch_after : Verdict → List ℕ → List ℕ
scratch_after (Ok x) xs = leaves zeroed xs
scratch_after (Err r) xs = leaves (scratch_left r) xs

-- the sheet is none that 1 to 8 refuse, and the scratch has a word for each of the image
pub record Asked (s w : List ℕ) (room : ℕ) : Type 0 where
  pub sheet_right : checked s ≡ Ok tt
  pub has_room : length w ≤ room

-- what the answer v says
pub record Says (s w : List ℕ) (room : ℕ) (v : Verdict) : Type 0 where
  pub of-sheet : (r : Refusal) → checked s ≡ Err r → v ≡ Err r
  pub short : checked s ≡ Ok tt → room < length w → v ≡ Err ScratchShort
  -- accepted exactly where the image is well made, 13 exactly where it is not
  pub made : Asked s w room → WellMade s w → v ≡ Ok tt
  pub unmade : Asked s w room → (WellMade s w → ⊥) → v ≡ Err IllMade
  pub accepted : Asked s w room → v ≡ Ok tt → WellMade s w
  pub refused : Asked s w room → v ≡ Err IllMade → WellMade s w → ⊥

-- all that is answered and left
pub record Answers (s w xs : List ℕ) (v : Verdict) (xs' : List ℕ) : Type 0 where
  pub answers : v ≡ judged s w (length xs)
  pub says : Says s w (length xs) v
  pub scratch_is : xs' ≡ scratch_after v xs
