-- What a sheet has passed, by the answer that the check gives.
use Prim.Native.Nat.{ℕ}
use mathlib.Core.Path.{◌≡◌, refl, ap, ◌∙◌}
use mathlib.Core.Bool.{Bool, true, false}
use mathlib.Core.List.{List}
use native.Mathlib.Omega.{arith}
use Rattle.std.specs.Prelude.{Err}
use Rattle.check_sizes.specs.Sizes.{sizes_ok}
use Rattle.check_shape.specs.Shape.{shape_ok}
use Rattle.check_texts.specs.Texts.{texts_ok}
use Rattle.check_numbers.specs.Numbers.{numbers_ok}
use Rattle.check_names.specs.Names.{names_ok}
use Rattle.check_depth.specs.Depth.{depth_ok}
use Rattle.check_switches.specs.Switch.{entries_ok}
use Rattle.refusals.specs.declared.Refusal.{Refusal}
use Rattle.refusals.specs.declared.Refusal.TheVariants.{Size, Shape, Text, Number, EmptyName, Depth, Arms}
use Rattle.refusals.proofs.RefusalLaws.{number-some}
use Rattle.checks.specs.Checked.{Verdict, verdict_number, checked, tree_checked}
use Rattle.checks.specs.EmptyNames.{Before}
use Rattle.checks.proofs.CheckedLaws.{says-14, goes-on}

-- a test whose refusal is not the answer has passed, and the answer is that of the tests behind it
past : (t : Bool) (r : Refusal) (v w : Verdict) → w ≡ elim t [ true ↦ v | false ↦ Err r ] → (w ≡ Err r → ⊥) → (t ≡ true) × (w ≡ v)
past true r v w is not-r = (refl, is)
past false r v w is not-r = absurd (not-r is)

-- where none of 1 to 4 is answered, nothing of them holds
pub before : (s : List ℕ) → (checked s ≡ Err Size → ⊥) → (checked s ≡ Err Shape → ⊥) → (checked s ≡ Err Text → ⊥)
    → (checked s ≡ Err Number → ⊥) → Before s
unfolding checked
before s a b c d =
    let sizes = past (sizes_ok s) Size _ (checked s) refl a in
    let shape = past (shape_ok s) Shape _ (checked s) sizes.1 b in
    let texts = past (texts_ok s) Text _ (checked s) shape.1 c in
    let numbers = past (numbers_ok s) Number _ (checked s) texts.1 d in
    record { sizes = sizes.0; shape = shape.0; texts = texts.0; numbers = numbers.0 }

-- there the answer goes by the names, and then by the tests from refusal 5 on
module _ (s : List ℕ) (b : Before s) where
  pub goes-past : names_ok s ≡ true → checked s ≡ tree_checked s
  goes-past = goes-on s b.sizes b.shape b.texts b.numbers

  behind : checked s ≡ elim (names_ok s) [ true ↦ tree_checked s | false ↦ Err EmptyName ]
  behind = by (names_ok s) refl
    where
      by : (t : Bool) → names_ok s ≡ t → checked s ≡ elim t [ true ↦ tree_checked s | false ↦ Err EmptyName ]
      by true e = goes-past e
      by false e = says-14 s b.sizes b.shape b.texts b.numbers e

-- a sheet that nothing refuses has passed each test
module _ (s : List ℕ) (a : verdict_number (checked s) ≡ 0) where
  none : (r : Refusal) → checked s ≡ Err r → ⊥
  none r e = omega (arith, number-some r, ap verdict_number e)

  pub accepted-before : Before s
  accepted-before = before s (none Size) (none Shape) (none Text) (none Number)

  pub accepted-sizes : sizes_ok s ≡ true
  accepted-sizes = accepted-before.sizes

  pub accepted-shape : shape_ok s ≡ true
  accepted-shape = accepted-before.shape

  pub accepted-texts : texts_ok s ≡ true
  accepted-texts = accepted-before.texts

  pub accepted-numbers : numbers_ok s ≡ true
  accepted-numbers = accepted-before.numbers

  passed-names : (names_ok s ≡ true) × (checked s ≡ tree_checked s)
  passed-names = past (names_ok s) EmptyName (tree_checked s) (checked s) (behind s accepted-before) (none EmptyName)

  pub accepted-names : names_ok s ≡ true
  accepted-names = passed-names.0

  none-behind : (r : Refusal) → tree_checked s ≡ Err r → ⊥
  none-behind r e = none r (passed-names.1 ∙ e)

  pub accepted-depth : depth_ok s ≡ true
  unfolding tree_checked
  accepted-depth = (past (depth_ok s) Depth _ (tree_checked s) refl (none-behind Depth)).0

  pub accepted-entries : entries_ok s ≡ true
  unfolding tree_checked
  accepted-entries =
      let depth = past (depth_ok s) Depth _ (tree_checked s) refl (none-behind Depth) in
      (past (entries_ok s) Arms _ (tree_checked s) depth.1 (none-behind Arms)).0
