-- `needs::plain_counts` meets its contract: the exact counts, or the greater of two that are refused alike.
use Rattle.needs.proofs.DecideLaws.{exact-decides}
use Rattle.needs.proofs.CountedLaws.{sought-plain, greater-plain}
use Rattle.needs.proofs.plain_counts.Goals as goal

pub returns-then-local_count-le-FEW_LOCALS : goal.returns-then-local_count-le-FEW_LOCALS
returns-then-local_count-le-FEW_LOCALS c = λ h. exact-decides _ _ (sought-plain _ _ h c.counted.ensures)

pub returns-then-alike : goal.returns-then-alike
returns-then-alike c =
    λ h. greater-plain _ _ _ _ h c.counted-most.ensures c.counted-2.ensures c.node_count.ensures (c.alike.ensures.0 c.if-alike.true)

pub returns : goal.returns
returns c = λ h. exact-decides _ _ (sought-plain _ _ h c.counted-3.ensures)
