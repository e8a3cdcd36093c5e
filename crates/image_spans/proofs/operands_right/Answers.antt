-- `image_spans::operands_right` meets its contract.
use mathlib.Core.Path.{ap, ◌∙◌}
use native.Mathlib.Omega.{arith}
use Rattle.image_rule.specs.Rules.{steps}
use Rattle.image_rule.specs.Test as test
use Rattle.image_spans.proofs.NeedLaws.{needs-fit, needs-built}
use Rattle.image_spans.proofs.operands_right.Goals as goal

pub returns-in_default : goal.returns-in_default
returns-in_default c =
    let size = c.of-image.result.sized.steps ∙ ap steps c.of-image.ensures in
    λ s lie. absurd (omega (arith, needs-fit s, size, c.in_default.ensures.lookup))

pub put_needs-requires : goal.put_needs-requires
put_needs-requires c =
    let size = c.of-image.result.sized.steps in
    omega (arith, size, c.in-Some.ensures.lookup.0.3)

pub returns : goal.returns
returns c =
    let same = c.of-image.ensures in
    λ s lie. c.chains_fit.ensures
    (needs-built _ _ c.of-image.result.sized.steps (omega (arith, c.in-Some.ensures.lookup.0.3)) c.put_needs.auto.t c.build.auto.t
    c.put_needs.ensures c.build.ensures (rw same lie))
    ∙ ap (λ w. test.operands_right w) same
