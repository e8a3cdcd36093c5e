-- What is left of the check where nothing of refusals 1, 2, 4 (of nodes), 5 and 8 holds.
use Rattle.std.specs.Prelude.{ℕ, List}
use Rattle.check_texts.specs.Texts.{texts_ok}
use Rattle.check_numbers.specs.Numbers.{locals_ok}
use Rattle.check_names.specs.Names.{names_ok}
use Rattle.check_switches.specs.Switch.{entries_ok, cases_ok}
use Rattle.checks.specs.Checked.{Verdict, passed, in_order}

unfoldable pub rest_checked : List ℕ → Verdict
unfolding in_order
rest_checked s =
    in_order
    passed
    passed
    (λ t. texts_ok s)
    (λ t. locals_ok s)
    (λ t. names_ok s)
    passed
    (λ t. entries_ok s)
    (λ t. cases_ok s)
    passed
