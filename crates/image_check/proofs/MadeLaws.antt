-- The test of a well made image, taken apart as the code takes it: what each part may assume, and what follows where one fails.
use Prim.Native.Nat.{ℕ, ◌≤◌}
use mathlib.Core.Path.{◌≡◌, refl, sym, ap, ◌∙◌}
use mathlib.Core.Bool.{Bool, true, false, ◌&&◌, and-eq-true_iff}
use mathlib.Core.List.{List}
use native.Mathlib.Omega.{arith}
use borrow.Author.Tests.{leb-true, eqb-true}
use lib.Dec.{leb, eqb}
use lib.ListN.{length}
use Rattle.std.proofs.Math.Bool.{and_assoc}
use Rattle.lowering.specs.Limits.{sizes_words}
use Rattle.lowering.specs.Words.{instructions}
use Rattle.image_rule.specs.Rules.{end_at}
use Rattle.image_rule.specs.Marks.{marked, marks_there, marks_right}
use Rattle.image_rule.specs.Test as test
use Rattle.image_rule.specs.Test.{operands_right, words_right, targets_right, well_made}
use Rattle.image_rule.proofs.WordLaws.{tells-words, tells-targets}
use Rattle.image_fields.specs.Fields.{fields_right}
use Rattle.image_spans.specs.Premises.{Sized, ChainsLie, RowsLie}
use Rattle.image_spans.proofs.LieLaws.{chains-lie, rows_lie}
use Rattle.image_depths.specs.Checked.{Checked}
use Rattle.image_check.specs.Sizes.{sizes_agree}

-- operands moved to the end
moved : (a o s c r : Bool) → (a && o && s && c && r) ≡ ((a && s && c && r) && o)
moved false o s c r = refl
moved true false false c r = refl
moved true false true false r = refl
moved true false true true false = refl
moved true false true true true = refl
moved true true false c r = refl
moved true true true false r = refl
moved true true true true false = refl
moved true true true true true = refl

-- the marks of the whole code
abbrev pub depths_right : List ℕ → Bool
depths_right w = marks_right w (marked w (marks_there w) (instructions w))

-- of ten tests that hold, the first, the sixth and the eighth
three : (a b c d e f g h i j : Bool) → (a && b && c && d && e && f && g && h && i && j) ≡ true → (a ≡ true) × ((f ≡ true) × (h ≡ true))
three a b c d e f g h i j t =
    let nine = ((and-eq-true_iff (a && b && c && d && e && f && g && h && i) j).0 t).0 in
    let eight = ((and-eq-true_iff (a && b && c && d && e && f && g && h) i).0 nine).0 in
    let seven = (and-eq-true_iff (a && b && c && d && e && f && g) h).0 eight in
    let six = ((and-eq-true_iff (a && b && c && d && e && f) g).0 seven.0).0 in
    let five = (and-eq-true_iff (a && b && c && d && e) f).0 six in
    let four = ((and-eq-true_iff (a && b && c && d) e).0 five.0).0 in
    let more = ((and-eq-true_iff (a && b && c) d).0 four).0 in
    let two = ((and-eq-true_iff (a && b) c).0 more).0 in
    (((and-eq-true_iff a b).0 two).0, (five.1, seven.1))

-- one test behind another, made only where that one holds
pub and-then : {a b v : Bool} → a ≡ true → v ≡ b → v ≡ (a && b)
and-then {a} {b} {v} t e = e ∙ sym (ap (λ x. x && b) t)

pub and-else : {a v : Bool} (b : Bool) → v ≡ a → a ≡ false → v ≡ (a && b)
and-else {a} {v} b e t = e ∙ t ∙ sym (ap (λ x. x && b) t)

pub left-holds : {a v : Bool} (b : Bool) → v ≡ (a && b) → v ≡ true → a ≡ true
left-holds {a} {v} b e t = ((and-eq-true_iff a b).0 (sym e ∙ t)).0

pub right-holds : {b v : Bool} (a : Bool) → v ≡ (a && b) → v ≡ true → b ≡ true
right-holds {b} {v} a e t = ((and-eq-true_iff a b).0 (sym e ∙ t)).1

-- sizes that agree
there : (w : List ℕ) → sizes_agree w ≡ true → (sizes_words ≤ length w) × (length w ≡ end_at w)
unfolding sizes_agree
there w a =
    let parts = (and-eq-true_iff (leb sizes_words (length w)) (eqb (length w) (end_at w))).0 a in
    (leb-true sizes_words (length w) parts.0, eqb-true (length w) (end_at w) parts.1)

pub sized : (w l : List ℕ) → sizes_agree w ≡ true → length l ≡ length w → Sized w l
sized w l a e = record { ends = (there w a).1; room = omega (arith, e) }

module _ (s w : List ℕ) where
  words_are : words_right s w ≡ (fields_right s w && operands_right w)
  unfolding words_right fields_right
  words_are =
      let front =
      test.code_right s w && test.consts_right s w && test.names_right s w && test.tokens_right w && test.residuals_right s w
      && test.chains_right s w && test.steps_right w in
      moved front (operands_right w) (test.switches_right w) (test.cases_right w) (test.ranges_right w)

  -- the whole test, in the order of the code
  pub made-is : well_made s w ≡ (sizes_agree w && (fields_right s w && operands_right w) && targets_right w && depths_right w)
  unfolding well_made sizes_agree
  made-is = ap (λ (x : Bool). sizes_agree w && x && targets_right w && depths_right w) words_are

  -- so it is where the value of the parts before the last is known
  pub made-by : (v : Bool) → v ≡ (sizes_agree w && fields_right s w && operands_right w && targets_right w)
      → (v && depths_right w) ≡ well_made s w
  made-by v e =
      ap (λ x. x && depths_right w) (e ∙ ap (λ x. x && targets_right w) (and_assoc (sizes_agree w) (fields_right s w) (operands_right w)))
      ∙ sym made-is

  module _ (a : sizes_agree w ≡ true) where
    module _ (f : fields_right s w ≡ true) where
      sections : (test.code_right s w ≡ true) × ((test.chains_right s w ≡ true) × (test.switches_right w ≡ true))
      unfolding fields_right
      sections =
          three (test.code_right s w) (test.consts_right s w) (test.names_right s w) (test.tokens_right w) (test.residuals_right s w)
          (test.chains_right s w) (test.steps_right w) (test.switches_right w) (test.cases_right w) (test.ranges_right w) f

      pub chains : ChainsLie w
      chains = chains-lie s w sections.1.0

      pub rows : RowsLie w
      rows = rows_lie s w sections.0 sections.1.1

      module _ (o : operands_right w ≡ true) where
        module _ (t : targets_right w ≡ true) where
          pub tested : Checked w
          tested =
              let right = words_are ∙ ap (λ (x : Bool). x && operands_right w) f ∙ o in
              let words = (tells-words s w).yields right in
              record {
                enough = (there w a).0;
                sizes = (there w a).1;
                aims = (tells-targets s w words).yields t;
                named = rows.named;
                pooled = rows.runs;
              }
