-- Every sheet of the table gets the number beside it, computed.
use mathlib.Core.Path.{◌≡◌, refl, sym, ◌∙◌}
use mathlib.Core.Bool.{true, false}
use mathlib.Core.List.{List, [], ◌∷◌}
use lib.Dec.{eqb}
use Rattle.check_quick.specs.Quick.{quick_number}
use Rattle.check_quick.proofs.QuickLaws.{quick-is}
use Rattle.test_check.specs.Rows.{Row, agrees, quickly, rows}

quickly-is : (rs : List Row) → quickly rs ≡ agrees rs
unfolding quickly agrees
quickly-is [] = refl
quickly-is (r ∷ rs) =
    λ i. elim (eqb (quick-is r.sheet i) r.number) [ true ↦ quickly-is rs i | false ↦ false ]

computed : quickly rows ≡ true
unfolding quickly quick_number
computed = refl

pub rows_agree : agrees rows ≡ true
rows_agree = sym (quickly-is rows) ∙ computed
