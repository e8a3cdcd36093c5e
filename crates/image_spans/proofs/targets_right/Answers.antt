-- `image_spans::targets_right` meets its contract.
use mathlib.Core.Path.{ap, ◌∙◌}
use native.Mathlib.Omega.{arith}
use Rattle.image_rule.specs.Rules.{cases, ranges}
use Rattle.image_read.specs.Pools.{kind_of}
use Rattle.image_rule.specs.Test as test
use Rattle.image_spans.proofs.PutLaws.{rows-fit, rows-built}
use Rattle.image_spans.proofs.targets_right.Goals as goal

pub returns-in_default : goal.returns-in_default
returns-in_default c =
    let image = c.of-image.result in
    let n = image.sized.cases ∙ ap cases c.of-image.ensures in
    let m = image.sized.ranges ∙ ap ranges c.of-image.ensures in
    λ s lie. absurd (omega (arith, rows-fit s, n, m, c.in_default.ensures.lookup))

pub put_targets-requires : goal.put_targets-requires
put_targets-requires c = omega (arith, c.in-Some.ensures.lookup.0.3)

pub put_targets-requires-2 : goal.put_targets-requires-2
put_targets-requires-2 c = omega (arith, c.in-Some.ensures.lookup.0.3, c.put_targets.auto.t)

pub returns : goal.returns
unfolding kind_of
returns c =
    let same = c.of-image.ensures in
    let image = c.of-image.result in
    λ s lie. c.code_aims.ensures
    (rows-built _ _ image.sized.cases image.sized.ranges
    (omega (arith, c.in-Some.ensures.lookup.0.3))
    c.put_targets.auto.t
    c.put_targets-2.auto.t
    c.build.auto.t
    c.put_targets.ensures
    c.put_targets-2.ensures
    c.build.ensures
    (rw same lie))
    ∙ ap (λ w. test.targets_right w) same
