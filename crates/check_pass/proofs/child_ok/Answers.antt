-- `check_pass::child_ok` meets its contract.
use mathlib.Core.Path.{sym, ◌∙◌}
use Rattle.check_pass.proofs.WordLaws.{child-plain}
use Rattle.check_pass.proofs.child_ok.Goals as goal

pub returns-then-p-lt-SWITCH : goal.returns-then-p-lt-SWITCH
returns-then-p-lt-SWITCH c h = child-plain _ _ _ _ _ c.if-p-lt-SWITCH.true h

pub returns : goal.returns
returns c h = sym c.child_kind.ensures ∙ h
