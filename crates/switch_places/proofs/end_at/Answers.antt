-- `switch_places::end_at` meets its contract.
use Prim.Native.Nat.{suc, ◌+◌, ◌-◌}
use mathlib.Core.Path.{◌≡◌, refl, ◌∙◌}
use native.Mathlib.Omega.{arith}
use Rattle.switch_places.proofs.SmallLaws.{none, some}
use Rattle.switch_places.proofs.end_at.Goals as goal

pub returns-in-None : goal.returns-in-None
returns-in-None c l m =
    let next : c.saturating_add.result ≡ c.args.after + 1 = omega (arith, l) in
    rw c.in-None.is (c.word.ensures (omega (arith, l, next)) ∙ next ∙ none 0 _ _ refl)

pub returns-in-Some : goal.returns-in-Some
returns-in-Some c l m =
    let most : c.max.result ≡ c.args.start + ((c.args.after - c.args.start) - 1) = omega arith in
    rw c.in-Some.is
    (c.word-in-Some.ensures (omega (arith, l, m, most)) ∙ most ∙ some (suc c.in-Some.field-0) _ _ (λ e. absurd (omega arith)))
