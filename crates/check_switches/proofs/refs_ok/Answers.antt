-- `check_switches::refs_ok` meets its contract: the test is the definition's.
use Rattle.check_switches.specs.Switch.{refs_by}
use Prim.Native.Nat.{◌+◌}
use mathlib.Core.Path.{ap}
use lib.Dec.{leb}
use Rattle.sheet.specs.Limits.{max_entries}
use Rattle.check_switches.proofs.refs_ok.Goals as goal

pub returns : goal.returns
unfolding refs_by
returns c = ap (λ n. leb n (1 + max_entries)) c.count.ensures
