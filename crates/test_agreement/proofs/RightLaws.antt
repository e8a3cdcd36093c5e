-- A table that is right agrees with the oracle, and its images meet demand 3.
use Prim.Native.Nat.{ℕ}
use mathlib.Core.Path.{◌≡◌, refl, sym, ap, ◌∙◌}
use mathlib.Core.Bool.{true}
use mathlib.Core.List.{List, [], ◌∷◌}
use Rattle.laws.proofs.Bool.{lazy-true, lazy-of}
use Rattle.checks.specs.Checked.{Verdict}
use Rattle.check_quick.specs.Quick.{quick_checked}
use Rattle.check_quick.proofs.QuickLaws.{quick-checked}
use Rattle.lowering.specs.Outcome.{outcome_after}
use Rattle.lowering.specs.Compute.{answer}
use Rattle.test_agreement.specs.Agree.{Row, digits, agrees, all_agree}
use Rattle.test_agreement.specs.Chosen.{demands, all_demands}
use Rattle.test_agreement.specs.Right.{fits, right, all_right}

quick-answer : (s : List ℕ) (i t : ℕ) → outcome_after s i t (quick_checked s) ≡ answer s i t
unfolding answer
quick-answer s i t = ap (λ (v : Verdict). outcome_after s i t v) (quick-checked s)

right-both : (r : Row) → right r ≡ true → (agrees r ≡ true) × (demands r ≡ true)
unfolding right fits agrees demands
right-both r h =
    lazy-true (agrees r) (demands r) (ap (fits r s) (sym (quick-answer s r.image_length r.scratch_length)) ∙ h)
  where
    s : List ℕ
    s = digits 256 r.bytes r.sheet []

-- a table that is right agrees
pub right-agrees : (rs : List Row) → all_right rs ≡ true → all_agree rs ≡ true
unfolding all_right all_agree
right-agrees [] h = refl
right-agrees (r ∷ rs) h =
    let split = lazy-true (right r) (all_right rs) h in
    lazy-of (agrees r) (all_agree rs) (right-both r split.0).0 (right-agrees rs split.1)

-- and its images meet demand 3
pub right-demands : (rs : List Row) → all_right rs ≡ true → all_demands rs ≡ true
unfolding all_right all_demands
right-demands [] h = refl
right-demands (r ∷ rs) h =
    let split = lazy-true (right r) (all_right rs) h in
    lazy-of (demands r) (all_demands rs) (right-both r split.0).1 (right-demands rs split.1)
