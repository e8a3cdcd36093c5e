-- `check_switches::distinct` meets its contract: by the numbers of the cases, or each with each.
use mathlib.Core.Path.{sym}
use Rattle.check_switches.proofs.distinct.Goals as goal

pub returns-then-keys_apart : goal.returns-then-keys_apart
returns-then-keys_apart c = sym (c.keys_apart.ensures c.if-keys_apart.true)
