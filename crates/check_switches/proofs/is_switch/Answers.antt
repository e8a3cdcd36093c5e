-- `check_switches::is_switch` meets its contract: the test is the definition's.
use Rattle.check_switches.specs.Switch.{is_switch_by}
use mathlib.Core.Path.{ap}
use lib.Dec.{eqb}
use Rattle.sheet.specs.Kinds.{switch_kind}
use Rattle.check_switches.proofs.is_switch.Goals as goal

pub returns : goal.returns
unfolding is_switch_by
returns c = ap (λ k. eqb k switch_kind) c.kind.ensures
