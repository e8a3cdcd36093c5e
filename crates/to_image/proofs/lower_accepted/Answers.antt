-- `to_image::lower_accepted` meets its contract: lowered by the kind of node 0.
use mathlib.Core.Path.{sym, ◌∙◌}
use Rattle.to_image.proofs.lower_accepted.Goals as goal

pub returns-then-kind-eq-SWITCH : goal.returns-then-kind-eq-SWITCH
returns-then-kind-eq-SWITCH c =
    λ ok. c.lower_switch.ensures ok (sym c.kind.ensures ∙ c.if-kind-eq-SWITCH.true)

pub returns : goal.returns
returns c =
    λ ok. c.lower_plain.ensures ok (λ h. c.if-kind-eq-SWITCH.false (c.kind.ensures ∙ h))
