-- What the tables compute: the outcome of a row once, for the oracle's answer and for demand 3, with the check in its quick form. It gives
-- both theorems of a table.
use Rattle.std.specs.Prelude.{ℕ, ◌^◌, Bool, true, false, List, [], ◌∷◌, eqb}
use Rattle.check_quick.specs.Quick.{quick_checked}
use Rattle.lowering.specs.Outcome.{Outcome, outcome_after}
use Rattle.test_agreement.specs.Agree.{Row, digits, same_outcome}
use Rattle.test_agreement.specs.Chosen.{demand_on, all_demands}

-- the outcome agrees and, where it is an image, meets demand 3
unfoldable pub fits : Row → List ℕ → Outcome → Bool
fits r s o =
    elim (same_outcome r.number (digits (2 ^ 32) r.words r.answers []) o) [
      | true ↦
          elim (eqb r.number 0) [ true ↦ demand_on s o | false ↦ true ]
      | false ↦ false
    ]

unfoldable pub right : Row → Bool
right r =
    let s = digits 256 r.bytes r.sheet [] in
    fits r s (outcome_after s r.image_length r.scratch_length (quick_checked s))

unfoldable pub all_right : List Row → Bool
unfolding fits right quick_checked all_demands
all_right [] = true
all_right (r ∷ rs) = elim (right r) [ true ↦ all_right rs | false ↦ false ]
