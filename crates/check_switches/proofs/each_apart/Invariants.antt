-- `check_switches::each_apart` meets its contract. Invariant: what is left of the walk differs where the whole does.
use mathlib.Core.Path.{◌≡◌}
use Rattle.sheet.specs.Rest.{rest}
use Rattle.check_switches.specs.Switch.{distinct}
use Rattle.check_switches.proofs.SwitchLaws.{list_distinct}
use Rattle.check_switches.proofs.each_apart.Given as goal

abbrev pub invariant-loop-p : goal.invariant-loop-p
invariant-loop-p l = list_distinct l.sheet (rest l.rest) ≡ distinct l.sheet l.m l.at

abbrev pub decreases-loop-p : goal.decreases-loop-p
decreases-loop-p l = l.rest.left
