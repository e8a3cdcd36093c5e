-- One law for each way that the check ends, and what the answer says by the theorem of crate image_rule.
use Prim.Native.Nat.{ℕ, ◌≤◌, ◌<◌}
use mathlib.Core.Path.{◌≡◌, refl, sym, ap, ◌∙◌, subst}
use mathlib.Core.Bool.{Bool, true, false}
use mathlib.Core.List.{List}
use native.Mathlib.Omega.{arith}
use borrow.Author.Tests.{lt-ltb, le-ltb}
use lib.ListN.{length, length-replicate}
use Rattle.zeros.specs.Zeros.{zeros, Zeroed}
use Rattle.refusals.specs.declared.Refusal.{Refusal}
use Rattle.refusals.specs.declared.Refusal.TheVariants.{ScratchShort, IllMade}
use Rattle.refusals.specs.Refusal.{leaves}
use Rattle.refusals.proofs.RefusalLaws.{own-keeps}
use Rattle.checks.specs.Checked.{verdict_number, checked, Verdict}
use Rattle.std.specs.Prelude.{Ok, Err}
use Rattle.checks.proofs.VerdictLaws.{refused-own}
use Rattle.image_rule.specs.WellMade.{WellMade}
use Rattle.image_rule.specs.Test.{well_made}
use Rattle.image_rule.proofs.Theorem.{well-made}
use Rattle.image_check.specs.Answer.{judged_after, judged, scratch_after, Asked, Says, Answers}

-- the answer, way by way
module _ (s w xs : List ℕ) where
  judged-sheet : (r : Refusal) → checked s ≡ Err r → judged s w (length xs) ≡ Err r
  unfolding judged judged_after
  judged-sheet r e = rw e

  module _ (ok : checked s ≡ Ok tt) where
    judged-short : length xs < length w → judged s w (length xs) ≡ Err ScratchShort
    unfolding judged judged_after
    judged-short h = rw (ok, judged_after, lt-ltb (length xs) (length w) h)

    judged-made : length w ≤ length xs → well_made s w ≡ true → judged s w (length xs) ≡ Ok tt
    unfolding judged judged_after
    judged-made h t = rw (ok, judged_after, le-ltb (length xs) (length w) h, t)

    judged-unmade : length w ≤ length xs → well_made s w ≡ false → judged s w (length xs) ≡ Err IllMade
    unfolding judged judged_after
    judged-unmade h t = rw (ok, judged_after, le-ltb (length xs) (length w) h, t)

-- the answer says what it should
unmade-false : (s w : List ℕ) → (WellMade s w → ⊥) → well_made s w ≡ false
unmade-false s w h = by (well_made s w) refl
  where
    by : (t : Bool) → well_made s w ≡ t → well_made s w ≡ false
    by true e = absurd (h ((well-made s w).yields e))
    by false e = e

not-both : {v : Verdict} → v ≡ Ok tt → v ≡ Err IllMade → ⊥
not-both e f = let n = ap verdict_number (sym e ∙ f) in omega arith

accepts : (s w xs : List ℕ) → Asked s w (length xs) → judged s w (length xs) ≡ Ok tt → WellMade s w
accepts s w xs a z = by (well_made s w) refl
  where
    by : (t : Bool) → well_made s w ≡ t → WellMade s w
    by true e = (well-made s w).yields e
    by false e = absurd (not-both z (judged-unmade s w xs a.sheet_right a.has_room e))

refuses : (s w xs : List ℕ) → Asked s w (length xs) → judged s w (length xs) ≡ Err IllMade → WellMade s w → ⊥
refuses s w xs a z m = not-both (judged-made s w xs a.sheet_right a.has_room ((well-made s w).passes m)) z

answer-says : (s w xs : List ℕ) → Says s w (length xs) (judged s w (length xs))
answer-says s w xs = record {
  of-sheet = judged-sheet s w xs;
  short = judged-short s w xs;
  made = λ a m. judged-made s w xs a.sheet_right a.has_room ((well-made s w).passes m);
  unmade = λ a m. judged-unmade s w xs a.sheet_right a.has_room (unmade-false s w m);
  accepted = accepts s w xs;
  refused = refuses s w xs;
}

by-answer : (s w xs xs' : List ℕ) (v : Verdict) → judged s w (length xs) ≡ v → xs' ≡ scratch_after v xs → Answers s w xs v xs'
by-answer s w xs xs' v e f = record { answers = sym e; says = subst (Says s w (length xs)) e (answer-says s w xs); scratch_is = f }

-- ---- the ways that the code ends

pub ends-sheet : (s w xs : List ℕ) (r : Refusal) {v : Verdict} → v ≡ checked s → v ≡ Err r → Answers s w xs (Err r) xs
unfolding scratch_after leaves
ends-sheet s w xs r v-is q =
    let e = sym v-is ∙ q in
    by-answer s w xs xs (Err r) (judged-sheet s w xs r e) (rw (own-keeps r (refused-own s r e), scratch_after))

pub ends-short : (s w xs : List ℕ) → checked s ≡ Ok tt → length xs < length w → Answers s w xs (Err ScratchShort) xs
unfolding scratch_after leaves
ends-short s w xs ok h = by-answer s w xs xs (Err ScratchShort) (judged-short s w xs ok h) refl

-- as many zeros as there were words
all-zeros : (xs ys xs' : List ℕ) → Zeroed ys xs' → length xs' ≡ length xs → xs' ≡ zeros (length xs)
all-zeros xs ys xs' e h = e.is ∙ ap zeros (sym (length-replicate {A = ℕ} (length ys) 0) ∙ sym (ap length e.is) ∙ h)

module _ (s w xs ys xs' : List ℕ) (ok : checked s ≡ Ok tt) (h : length w ≤ length xs) (f : Zeroed ys xs')
    (g : length xs' ≡ length xs) where
  pub ends-made : well_made s w ≡ true → Answers s w xs (Ok tt) xs'
  unfolding scratch_after leaves
  ends-made t = by-answer s w xs xs' (Ok tt) (judged-made s w xs ok h t) (all-zeros xs ys xs' f g)

  pub ends-unmade : well_made s w ≡ false → Answers s w xs (Err IllMade) xs'
  unfolding scratch_after leaves
  ends-unmade t = by-answer s w xs xs' (Err IllMade) (judged-unmade s w xs ok h t) (all-zeros xs ys xs' f g)
