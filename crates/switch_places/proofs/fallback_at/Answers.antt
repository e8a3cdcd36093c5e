-- `switch_places::fallback_at` meets its contract.
use mathlib.Core.Path.{sym, ◌∙◌}
use Rattle.switch_places.proofs.SmallLaws.{none, some}
use Rattle.switch_places.proofs.fallback_at.Goals as goal

pub returns-then-at-eq0 : goal.returns-then-at-eq0
returns-then-at-eq0 c = none _ _ _ (sym c.at.ensures ∙ c.if-at-eq0.true)

pub returns : goal.returns
returns c = c.at-2.ensures ∙ some _ _ _ (λ e. c.if-at-eq0.false (c.at.ensures ∙ e))
