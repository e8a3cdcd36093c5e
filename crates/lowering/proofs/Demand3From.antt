-- Demand 3 of an accepted image, from what is shown of the lowered program.
use Prim.Native.Nat.{ℕ}
use mathlib.Core.Path.{◌≡◌, subst}
use mathlib.Core.List.{List}
use Rattle.sheet.specs.Node.{kind}
use Rattle.lowering.specs.Kinds.{switch_kind}
use Rattle.lowering.specs.Image.{words}
use Rattle.lowering.specs.Outcome.{image, lower, outcome}
use Rattle.lowering.specs.Demand3.{ChoosesRight, Demand3}
use Rattle.lowering.proofs.Whole.{WellTyped, AllReached}
use Rattle.lowering.proofs.LowerFits.{lower-fits, image_is}
use Rattle.lowering.proofs.RunsRight.{runs-right}
use Rattle.lowering.proofs.DepthReached.{depth-reached}

pub demand3-from : (s : List ℕ) (image_length scratch_length : ℕ) (w : List ℕ) → outcome s image_length scratch_length ≡ image w
    → WellTyped (lower s) → AllReached (lower s) → (kind s 0 ≡ switch_kind → ChoosesRight s (words (lower s))) → Demand3 s w
demand3-from s image_length scratch_length w e T A C =
    let F = lower-fits s in
    subst (Demand3 s) (image_is s image_length scratch_length w e)
    (record { runs = runs-right (lower s) F T; depth = depth-reached (lower s) F T A; choice = C })
