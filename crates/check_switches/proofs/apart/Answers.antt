-- `check_switches::apart` meets its contract: the test is the definition's.
use Rattle.check_switches.specs.Switch.{same_value, apart_by}
use mathlib.Core.Bool.{not}
use mathlib.Core.Path.{ap, ap₂, ◌∙◌}
use Rattle.check_switches.proofs.apart.Goals as goal

pub returns : goal.returns
unfolding apart_by
returns c =
    let s = c.args.sheet.now in
    ap not (c.same_value.ensures ∙ ap₂ (same_value s) c.child.ensures c.child-2.ensures)
