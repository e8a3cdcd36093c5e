-- Laws of verdicts: 0 is no refusal, and what the check refuses is the sheet's own.
use Prim.Native.Nat.{ℕ}
use mathlib.Core.Path.{◌≡◌, refl, subst}
use mathlib.Core.Bool.{Bool, true, false}
use mathlib.Core.List.{List}
use native.Mathlib.Omega.{arith}
use Rattle.check_sizes.specs.Sizes.{sizes_ok}
use Rattle.check_shape.specs.Shape.{shape_ok}
use Rattle.check_texts.specs.Texts.{texts_ok}
use Rattle.check_numbers.specs.Numbers.{numbers_ok}
use Rattle.check_names.specs.Names.{names_ok}
use Rattle.check_depth.specs.Depth.{depth_ok}
use Rattle.check_switches.specs.Switch.{entries_ok, cases_ok}
use Rattle.check_support.specs.Support.{supported_ok}
use Rattle.refusals.specs.declared.Refusal.{Refusal}
use Rattle.refusals.specs.Refusal.{of_sheet}
use Rattle.refusals.proofs.RefusalLaws.{number-some}
use Rattle.checks.specs.Checked.{Verdict, verdict_number, checked}
use Rattle.std.specs.Prelude.{Ok, Err}

-- 0 is no refusal
pub accepted-is : (v : Verdict) → verdict_number v ≡ 0 → v ≡ Ok tt
accepted-is (Ok x) e = refl
accepted-is (Err r) e = absurd (omega (arith, number-some r))

-- ---- what the check refuses is the sheet's own

abbrev pub Own : Verdict → Type 0
Own (Ok x) = Prim.Unit {0}
Own (Err r) = of_sheet r ≡ true

either : (t : Bool) (a b : Verdict) → Own a → Own b → Own (elim t [ false ↦ a | true ↦ b ])
either true a b f g = g
either false a b f g = f

pub checked-own : (s : List ℕ) → Own (checked s)
unfolding checked
checked-own s =
    either (sizes_ok s) _ _ refl
    (either (shape_ok s) _ _ refl
    (either (texts_ok s) _ _ refl
    (either (numbers_ok s) _ _ refl
    (either (names_ok s) _ _ refl
    (either (depth_ok s) _ _ refl
    (either (entries_ok s) _ _ refl
    (either (cases_ok s) _ _ refl
    (either (supported_ok s) _ _ refl tt))))))))

pub refused-own : (s : List ℕ) (r : Refusal) → checked s ≡ Err r → of_sheet r ≡ true
refused-own s r e = subst Own e (checked-own s)
