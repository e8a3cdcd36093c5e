-- The sheet of Refused10 is refused with 10, by its total.
use mathlib.Core.Path.{◌≡◌, refl, sym, ap, ◌∙◌}
use mathlib.Core.Bool.{true, false}
use native.Mathlib.Omega.{arith}
use lib.Dec.{eqb}
use Rattle.sheet.specs.Limits.{max_depth}
use Rattle.sheet.specs.Node.{kind}
use Rattle.checks.specs.Checked.{verdict_number, checked}
use Rattle.check_quick.specs.Quick.{quick_number}
use Rattle.check_quick.proofs.QuickLaws.{quick-is}
use Rattle.switch_split.specs.Split.{split}
use Rattle.lowering.specs.Kinds.{switch_kind}
use Rattle.refusals.specs.declared.Refusal.TheVariants.{Emitted}
use Rattle.refusals.specs.Refusal.{refusal_number}
use Rattle.lowering.specs.Outcome.{refused, outcome}
use Rattle.lowering.specs.Compute.{checked_number}
use Rattle.expr_count.specs.Tally.{counted}
use Rattle.expr_count.specs.Count.{tally}
use Rattle.switch_count.specs.Total.{total, switch_tally}
use Rattle.switch_count.specs.Compute.{node_tally, switch_numbers}
use Rattle.switch_count.proofs.OutcomeLaws.{outcome-10}
use Rattle.test_agreement.specs.Agree.{digits}
use Rattle.test_agreement.specs.Ranges.{quick_ranges}
use Rattle.test_agreement.proofs.RangesRight.{quick-ranges}
use Rattle.test_agreement.specs.Edge.{stairs, both_told}
use Rattle.test_agreement.proofs.EdgeRight.{total-both}
use Rattle.test_agreement.specs.Refused10.{edge, sheet}

quickly : quick_number sheet ≡ 0
unfolding edge sheet digits quick_number
quickly = refl

accepted : verdict_number (checked sheet) ≡ 0
accepted = sym (quick-is sheet) ∙ quickly

switched : eqb (kind sheet 0) switch_kind ≡ true
unfolding edge sheet digits checked_number
switched = refl

large : tally max_depth sheet 2 ≡ counted 247 247 false
unfolding edge sheet digits node_tally
large = refl

small : tally max_depth sheet 72 ≡ counted 4 4 false
unfolding edge sheet digits node_tally
small = refl

laid : quick_ranges sheet ≡ stairs
unfolding edge sheet digits quick_ranges stairs
laid = refl

all : switch_tally sheet (both_told sheet 2 72 (counted 247 247 false) (counted 4 4 false)) (split stairs) ≡ counted 262144 262144 false
unfolding edge sheet digits node_tally switch_numbers both_told stairs
all = refl

totalled : total sheet ≡ counted 262144 262144 false
totalled =
    total-both sheet 2 72 (counted 247 247 false) (counted 4 4 false) switched large small stairs (sym (quick-ranges sheet) ∙ laid) ∙ all

pub agreed : (outcome sheet edge.image_length edge.scratch_length ≡ refused Emitted) × (refusal_number Emitted ≡ edge.number)
unfolding edge
agreed =
    (outcome-10 sheet 16384 16384 accepted (ap (λ t. t.defeated) totalled) (omega (arith, ap (λ t. t.emitted) totalled)), refl)
