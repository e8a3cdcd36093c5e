-- `switch_places::closing` meets its contract.
use mathlib.Core.Path.{refl}
use native.Mathlib.Omega.{arith}
use Rattle.switch_places.proofs.SmallLaws.{none, some}
use Rattle.switch_places.proofs.closing.Goals as goal

pub returns-in-None : goal.returns-in-None
returns-in-None c = rw c.in-None.is (none 0 3 2 refl)

pub returns-in-Some : goal.returns-in-Some
returns-in-Some c = rw c.in-Some.is (some _ 3 2 (λ e. absurd (omega arith)))
