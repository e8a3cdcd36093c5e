-- `switch_intervals::goes_on` meets its contract: where hashes differ, so do the lists.
use mathlib.Core.Path.{◌∙◌}
use Rattle.switch_intervals.proofs.JoiningLaws.{goes-same, goes-other, goes-none}
use Rattle.switch_intervals.proofs.goes_on.Goals as goal

pub returns-then-at-h : goal.returns-then-at-h
returns-then-at-h c = λ few hash known. c.same_list.ensures few ∙ goes-same _ _ _ _ c.in-Some.is

pub returns-else-at-h : goal.returns-else-at-h
returns-else-at-h c = λ few hash known. goes-other _ _ _ _ _ _ _ c.in-Some.is hash known c.at.ensures c.if-at-h.false

pub returns-in-None : goal.returns-in-None
returns-in-None c = λ few hash known. goes-none _ _ _ c.in-None.is
