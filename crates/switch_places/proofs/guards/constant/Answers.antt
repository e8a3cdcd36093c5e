-- `switch_places::guards::constant` meets its contract. One law for each answer.
use mathlib.Core.Path.{sym, ◌∙◌}
use Rattle.switch_places.proofs.GuardLaws.{known-never, known-always}
use Rattle.switch_places.proofs.guards.constant.Goals as goal

pub returns-then-field_a-eq0 : goal.returns-then-field_a-eq0
returns-then-field_a-eq0 c = λ t. known-never _ t _ (sym c.field_a.ensures ∙ c.if-field_a-eq0.true)

pub returns-else-field_a-eq0 : goal.returns-else-field_a-eq0
returns-else-field_a-eq0 c = λ t. known-always _ t _ (λ e. c.if-field_a-eq0.false (c.field_a.ensures ∙ e))
