-- `needs::counts` meets its contract: by the kind of node 0.
use mathlib.Core.Path.{sym, ◌∙◌}
use Rattle.needs.proofs.CountLaws.{switch-counted}
use Rattle.needs.proofs.CountedLaws.{sought-counts, exact-total, sought-plain}
use Rattle.needs.proofs.counts.Goals as goal

pub returns-then-kind-eq-SWITCH : goal.returns-then-kind-eq-SWITCH
returns-then-kind-eq-SWITCH c =
    λ ok.
    let h = sym c.kind.ensures ∙ c.if-kind-eq-SWITCH.true in
    switch-counted _ _ h (exact-total _ _ _ (sought-counts _ _ _ (c.planned.ensures ok h)))

pub returns : goal.returns
returns c =
    λ ok. sought-plain _ _ (λ h. c.if-kind-eq-SWITCH.false (c.kind.ensures ∙ h)) c.counted.ensures
