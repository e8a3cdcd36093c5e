-- Demand 3, put together: what is shown of expressions and of switches, for every sheet whose outcome is an image.
use Prim.Native.Nat.{ℕ}
use mathlib.Core.Path.{◌≡◌, refl, sym, subst}
use mathlib.Core.Bool.{Bool, true, false}
use mathlib.Core.List.{List}
use native.Mathlib.Omega.{arith}
use lib.Dec.{eqb}
use borrow.Author.Tests.{eqb-true}
use Rattle.sheet.specs.Node.{kind}
use Rattle.checks.specs.Checked.{Verdict, verdict_number, checked}
use Rattle.std.specs.Prelude.{Ok, Err}
use Rattle.lowering.specs.Limits.{max_levels}
use Rattle.lowering.specs.Kinds.{switch_kind}
use Rattle.lowering.specs.Expression.{expression}
use Rattle.lowering.specs.Outcome.{image, lower, outcome_after, outcome}
use Rattle.lowering.specs.Demand3.{Statement}
use Rattle.lowering.proofs.Whole.{WellTyped, AllReached}
use Rattle.checks.proofs.AcceptedLaws.{accepted-sizes, accepted-shape}
use Rattle.lowering.proofs.LowerFits.{lower_switch, lower-plain}
use Rattle.lowering.proofs.SoundExpression.{expression-meets, plain-typed}
use Rattle.lowering.proofs.LinkedExpression.{expression-links, plain-reached}
use Rattle.lowering.proofs.SwitchAccepted.{accepted-blocks, accepted-typed, accepted-reached}
use Rattle.lowering.proofs.Choice.{chooses-right}
use Rattle.lowering.proofs.Demand3From.{demand3-from}

-- a refusal is no image
pub not_image : (s : List ℕ) (image_length scratch_length : ℕ) (v : Verdict) (w : List ℕ)
    → outcome_after s image_length scratch_length v ≡ image w
    → verdict_number v ≡ 0
unfolding outcome_after
not_image s image_length scratch_length (Ok x) w e = refl
not_image s image_length scratch_length (Err r) w e = let z : ◌≡◌ {A = ℕ} 0 1 = cc in absurd (omega arith)

module _ (s : List ℕ) (a : verdict_number (checked s) ≡ 0) where
  pub lower-typed : WellTyped (lower s)
  lower-typed = by (eqb (kind s 0) switch_kind) refl
    where
      by : (t : Bool) → eqb (kind s 0) switch_kind ≡ t → WellTyped (lower s)
      by true h =
          subst WellTyped (sym (lower_switch s h))
          (accepted-typed s a (eqb-true (kind s 0) switch_kind h) (expression max_levels s) (expression-meets max_levels s))
      by false h = subst WellTyped (sym (lower-plain s h)) (plain-typed s)

  pub lower-reached : AllReached (lower s)
  lower-reached = by (eqb (kind s 0) switch_kind) refl
    where
      by : (t : Bool) → eqb (kind s 0) switch_kind ≡ t → AllReached (lower s)
      by true h =
          subst AllReached (sym (lower_switch s h))
          (accepted-reached s a (eqb-true (kind s 0) switch_kind h) (expression max_levels s) (expression-meets max_levels s)
          (record { links = (expression-links max_levels s (accepted-sizes s a) (accepted-shape s a)).links }))
      by false h = subst AllReached (sym (lower-plain s h)) (plain-reached s (accepted-sizes s a) (accepted-shape s a))

pub demand3 : Statement
unfolding outcome
demand3 s image_length scratch_length w e =
    let a = not_image s image_length scratch_length (checked s) w e in
    demand3-from s image_length scratch_length w e (lower-typed s a) (lower-reached s a)
    (λ k. chooses-right s (expression-meets max_levels s) (accepted-blocks s a k) k)
