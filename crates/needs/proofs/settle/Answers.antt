-- `needs::settle` meets its contract: the table is counted by its own locals already, or it is now.
use native.Mathlib.Omega.{arith}
use Rattle.needs.proofs.CountedLaws.{sought-counts, exact-table}
use Rattle.needs.proofs.settle.Goals as goal

pub returns-then-local_count-le-FEW_LOCALS : goal.returns-then-local_count-le-FEW_LOCALS
returns-then-local_count-le-FEW_LOCALS c = λ ok k was. was (omega (arith, c.local_count.ensures, c.if-local_count-le-FEW_LOCALS.true))

pub returns : goal.returns
returns c = λ ok k was. exact-table _ _ _ (sought-counts _ _ _ (c.planned.ensures ok k))
