-- `needs::switch_counts` meets its contract: the exact counts, or the greater of two that are refused alike.
use native.Mathlib.Omega.{arith}
use Rattle.needs.proofs.CountedLaws.{sought-counts, exact-table, exact-switch, greater-switch}
use Rattle.needs.proofs.switch_counts.Goals as goal

pub returns-then-local_count-le-FEW_LOCALS : goal.returns-then-local_count-le-FEW_LOCALS
returns-then-local_count-le-FEW_LOCALS c =
    λ ok k.
    let C = sought-counts _ _ _ (c.planned.ensures ok k) in
    (exact-switch _ _ _ C _ k, λ few. exact-table _ _ _ C)

pub returns-then-alike : goal.returns-then-alike
returns-then-alike c =
    λ ok k. (
      greater-switch _ _ _ _ _ _ k (c.planned-most.ensures ok k) (c.planned-2.ensures ok k) c.node_count.ensures
          (c.alike.ensures.0 c.if-alike.true),
      λ few. absurd (omega (arith, c.local_count.ensures, c.if-local_count-le-FEW_LOCALS.false, few)),
    )

pub returns : goal.returns
returns c =
    λ ok k.
    let C = sought-counts _ _ _ (c.planned-3.ensures ok k) in
    (exact-switch _ _ _ C _ k, λ few. exact-table _ _ _ C)
