-- Laws of the check: one for each answer.
use Prim.Native.Nat.{ℕ}
use mathlib.Core.Path.{◌≡◌}
use mathlib.Core.Bool.{true, false}
use mathlib.Core.List.{List}
use Rattle.std.specs.Prelude.{Ok, Err}
use Rattle.check_sizes.specs.Sizes.{sizes_ok}
use Rattle.check_shape.specs.Shape.{shape_ok}
use Rattle.check_texts.specs.Texts.{texts_ok}
use Rattle.check_numbers.specs.Numbers.{numbers_ok}
use Rattle.check_names.specs.Names.{names_ok}
use Rattle.check_depth.specs.Depth.{depth_ok}
use Rattle.check_switches.specs.Switch.{entries_ok, cases_ok}
use Rattle.check_support.specs.Support.{supported_ok}
use Rattle.checks.specs.Checked.{in_order, checked_by, tree_checked, checked}
use Rattle.refusals.specs.declared.Refusal.TheVariants.{Size, Shape, Text, Number, EmptyName, Depth, Arms, Twice, Unsupported}

module _ (s : List ℕ) where
  pub says-1 : sizes_ok s ≡ false → checked s ≡ Err Size
  unfolding checked
  says-1 a = rw (a, checked_by, in_order)

  pub says-2 : sizes_ok s ≡ true → shape_ok s ≡ false → checked s ≡ Err Shape
  unfolding checked
  says-2 a b = rw (a, b, checked_by, in_order)

  pub says-3 : sizes_ok s ≡ true → shape_ok s ≡ true → texts_ok s ≡ false → checked s ≡ Err Text
  unfolding checked
  says-3 a b c = rw (a, b, c, checked_by, in_order)

  pub says-4 : sizes_ok s ≡ true → shape_ok s ≡ true → texts_ok s ≡ true → numbers_ok s ≡ false → checked s ≡ Err Number
  unfolding checked
  says-4 a b c d = rw (a, b, c, d, checked_by, in_order)

  pub says-14 : sizes_ok s ≡ true → shape_ok s ≡ true → texts_ok s ≡ true → numbers_ok s ≡ true → names_ok s ≡ false
      → checked s ≡ Err EmptyName
  unfolding checked
  says-14 a b c d e = rw (a, b, c, d, e, checked_by, in_order)

  pub goes-on : sizes_ok s ≡ true → shape_ok s ≡ true → texts_ok s ≡ true → numbers_ok s ≡ true → names_ok s ≡ true
      → checked s ≡ tree_checked s
  unfolding checked tree_checked
  goes-on a b c d e = rw (a, b, c, d, e, checked_by, tree_checked, in_order)

  pub says-5 : depth_ok s ≡ false → tree_checked s ≡ Err Depth
  unfolding tree_checked
  says-5 a = rw (a, tree_checked, in_order)

  pub says-6 : depth_ok s ≡ true → entries_ok s ≡ false → tree_checked s ≡ Err Arms
  unfolding tree_checked
  says-6 a b = rw (a, b, tree_checked, in_order)

  pub says-7 : depth_ok s ≡ true → entries_ok s ≡ true → cases_ok s ≡ false → tree_checked s ≡ Err Twice
  unfolding tree_checked
  says-7 a b c = rw (a, b, c, tree_checked, in_order)

  pub says-8 : depth_ok s ≡ true → entries_ok s ≡ true → cases_ok s ≡ true → supported_ok s ≡ false → tree_checked s ≡ Err Unsupported
  unfolding tree_checked
  says-8 a b c d = rw (a, b, c, d, tree_checked, in_order)

  pub says-0 : depth_ok s ≡ true → entries_ok s ≡ true → cases_ok s ≡ true → supported_ok s ≡ true → tree_checked s ≡ Ok tt
  unfolding tree_checked
  says-0 a b c d = rw (a, b, c, d, tree_checked, in_order)
