-- Laws of what is left of the check after the pass: one for each answer, and that it is the check's.
use Prim.Native.Nat.{ℕ}
use mathlib.Core.Path.{◌≡◌, ap, sym}
use mathlib.Core.Bool.{true, false, ◌&&◌}
use mathlib.Core.List.{List}
use Rattle.std.specs.Prelude.{Ok, Err}
use Rattle.laws.proofs.Bool.{both}
use Rattle.check_sizes.specs.Sizes.{sizes_ok}
use Rattle.check_texts.specs.Texts.{texts_ok}
use Rattle.check_numbers.specs.Numbers.{numbers_by, numbers_ok, node_numbers_ok, locals_ok}
use Rattle.check_names.specs.Names.{names_ok}
use Rattle.check_switches.specs.Switch.{entries_ok, cases_ok}
use Rattle.check_pass.specs.Fine.{Fine}
use Rattle.checks.specs.Checked.{in_order, checked}
use Rattle.checks.specs.Rest.{rest_checked}
use Rattle.refusals.specs.declared.Refusal.TheVariants.{Text, Number, EmptyName, Arms, Twice}

module _ (s : List ℕ) where
  pub rest-3 : texts_ok s ≡ false → rest_checked s ≡ Err Text
  unfolding rest_checked
  rest-3 a = rw (a, rest_checked, in_order)

  pub rest-4 : texts_ok s ≡ true → locals_ok s ≡ false → rest_checked s ≡ Err Number
  unfolding rest_checked
  rest-4 a b = rw (a, b, rest_checked, in_order)

  pub rest-14 : texts_ok s ≡ true → locals_ok s ≡ true → names_ok s ≡ false → rest_checked s ≡ Err EmptyName
  unfolding rest_checked
  rest-14 a b c = rw (a, b, c, rest_checked, in_order)

  pub rest-6 : texts_ok s ≡ true → locals_ok s ≡ true → names_ok s ≡ true → entries_ok s ≡ false → rest_checked s ≡ Err Arms
  unfolding rest_checked
  rest-6 a b c d = rw (a, b, c, d, rest_checked, in_order)

  pub rest-7 : texts_ok s ≡ true → locals_ok s ≡ true → names_ok s ≡ true → entries_ok s ≡ true → cases_ok s ≡ false
      → rest_checked s ≡ Err Twice
  unfolding rest_checked
  rest-7 a b c d e = rw (a, b, c, d, e, rest_checked, in_order)

  pub rest_0 : texts_ok s ≡ true → locals_ok s ≡ true → names_ok s ≡ true → entries_ok s ≡ true → cases_ok s ≡ true
      → rest_checked s ≡ Ok tt
  unfolding rest_checked
  rest_0 a b c d e = rw (a, b, c, d, e, rest_checked, in_order)

  -- the numbers of nodes and of locals are all numbers
  pub numbers-all : node_numbers_ok s ≡ true → locals_ok s ≡ true → numbers_ok s ≡ true
  unfolding numbers_by
  numbers-all a b = both a b

  module _ (sizes : sizes_ok s ≡ true) (f : Fine s) where
    locals_are : locals_ok s ≡ numbers_ok s
    unfolding numbers_by
    locals_are = ap (λ nodes. nodes && locals_ok s) (sym f.numbers)

    -- after the pass, what is left is the check's answer
    pub rest_is : rest_checked s ≡ checked s
    unfolding rest_checked checked
    rest_is =
        λ i. in_order
        (λ t. sym sizes i)
        (λ t. sym f.shape i)
        (λ t. texts_ok s)
        (λ t. locals_are i)
        (λ t. names_ok s)
        (λ t. sym f.depth i)
        (λ t. entries_ok s)
        (λ t. cases_ok s)
        (λ t. sym f.support i)
