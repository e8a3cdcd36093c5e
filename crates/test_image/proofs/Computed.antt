-- The number in a form that stops at the first test that fails, so that wild sizes and counts are not gone through; equal to the number.
use Prim.Native.Nat.{ℕ, zero, suc, ◌≤◌}
use mathlib.Core.Path.{◌≡◌, refl, sym, ap, ◌∙◌}
use mathlib.Core.Bool.{Bool, true, false, ◌&&◌, true≢false}
use mathlib.Core.List.{List, [], ◌∷◌}
use lib.Dec.{eqb}
use borrow.Author.Tests.{eqb-true, le-ltb}
use native.Mathlib.Omega.{arith}
use lib.ListN.{length}
use Rattle.check_quick.specs.Quick.{quick_number}
use Rattle.check_quick.proofs.QuickLaws.{quick-is}
use Rattle.lowering.specs.MakeSheet.{bytes_of}
use Rattle.refusals.specs.declared.Refusal.TheVariants.{IllMade}
use Rattle.refusals.specs.Refusal.{refusal_number}
use Rattle.refusals.proofs.RefusalLaws.{number-some}
use Rattle.checks.specs.Checked.{verdict_number, checked, Verdict}
use Rattle.std.specs.Prelude.{Ok, Err}
use Rattle.image_rule.specs.Test.{operands_right, targets_right, well_made}
use Rattle.image_fields.specs.Fields.{fields_right}
use Rattle.image_check.specs.Sizes.{sizes_agree}
use Rattle.image_check.specs.Answer.{judged_after, judged}
use Rattle.image_check.proofs.MadeLaws.{depths_right, made-is}
use Rattle.test_image.specs.Row.{Row, Right, AllRight}

unfoldable pub made : List ℕ → List ℕ → Bool
made s w =
    elim (sizes_agree w) [
      | true ↦
          elim (fields_right s w) [
            | true ↦
                elim (operands_right w) [
                  | true ↦ elim (targets_right w) [ true ↦ depths_right w | false ↦ false ]
                  | false ↦ false
                ]
            | false ↦ false
          ]
      | false ↦ false
    ]

lazily : (s w : List ℕ) → (sizes_agree w && (fields_right s w && operands_right w) && targets_right w && depths_right w) ≡ made s w
unfolding made
lazily s w = by (sizes_agree w) (fields_right s w) (operands_right w) (targets_right w) (depths_right w)
  where
    inner : Bool → Bool → Bool → Bool
    inner c d e = elim c [ true ↦ elim d [ true ↦ e | false ↦ false ] | false ↦ false ]

    by :
        (a b c d e : Bool)
        → (a && (b && c) && d && e) ≡ elim a [ true ↦ elim b [ true ↦ inner c d e | false ↦ false ] | false ↦ false ]
    by false b c d e = refl
    by true false c d e = refl
    by true true false d e = refl
    by true true true false e = refl
    by true true true true e = refl

unfoldable pub number_by : ℕ → List ℕ → List ℕ → ℕ
number_by zero s w = elim (made s w) [ true ↦ 0 | false ↦ refusal_number IllMade ]
number_by (suc n) s w = suc n

-- a refusal has its own number
numbered : (n : ℕ) (s w : List ℕ) → 1 ≤ n → n ≡ number_by n s w
unfolding number_by
numbered zero s w h = absurd (omega arith)
numbered (suc n) s w h = refl

number-by : (v : Verdict) (s w : List ℕ) → verdict_number (judged_after v s w (length w)) ≡ number_by (verdict_number v) s w
unfolding judged_after number_by
number-by (Ok x) s w =
    let is = made-is s w ∙ lazily s w in
    rw (le-ltb (length w) (length w) (omega arith), judged_after)
    (by (well_made s w) (made s w) is)
  where
    by : (a b : Bool) → a ≡ b
        → verdict_number (elim a [ true ↦ Ok tt | false ↦ Err IllMade ]) ≡ elim b [ true ↦ 0 | false ↦ refusal_number IllMade ]
    by true b e = rw (sym e)
    by false b e = rw (sym e)
number-by (Err r) s w = numbered (refusal_number r) s w (number-some r)

-- all rows agree, computed
abbrev row_agrees : Row → Bool
row_agrees r = let s = bytes_of r.sheet in eqb (number_by (quick_number s) s r.image) r.number

unfoldable pub agree : List Row → Bool
agree [] = true
agree (r ∷ rs) = elim (row_agrees r) [ true ↦ agree rs | false ↦ false ]

row-right : (r : Row) → row_agrees r ≡ true → Right r
unfolding judged
row-right r h =
    let s = bytes_of r.sheet in
    number-by (checked s) s r.image
    ∙ ap (λ (n : ℕ). number_by n s r.image) (sym (quick-is s))
    ∙ eqb-true _ _ h

pub agree_right : (rs : List Row) → agree rs ≡ true → AllRight rs
unfolding agree AllRight
agree_right [] h = tt
agree_right (r ∷ rs) h = by (agree_right rs) (row_agrees r) refl h
  where
    by :
        (agree rs ≡ true → AllRight rs)
        → (t : Bool)
        → row_agrees r ≡ t
        → elim t [ true ↦ agree rs | false ↦ false ] ≡ true
        → Right r × AllRight rs
    by rest true e g = (row-right r e, rest g)
    by rest false e g = absurd (true≢false (sym g))
