-- `image_spans::chains_fit` meets its contract: every chain is looked at.
use Rattle.std.proofs.Common.{rules}
use borrow.Author.Tests.{tests}
use mathlib.Core.Path.{refl, ap, ◌∙◌}
use native.Mathlib.Omega.{arith}
use Prim.Native.Nat.{◌<◌}
use Rattle.image_rule.specs.Rules.{chains}
use Rattle.words.specs.Count.{all_below}
use Rattle.image_rule.specs.Test.{operands_by}
use Rattle.image_read.proofs.BelowLaws.{all_below-under}
use Rattle.image_spans.proofs.chains_fit.Goals as goal

pub returns : goal.returns
returns c =
    let image = c.args.image.now in
    let test = operands_by image.words.now in
    λ T.
    all_below-under test _ _ _ _ c.all.ensures.ran refl
    (λ x b q k. (search (rules, tests), λ h. let inside : x < chains image.words.now = omega (arith, h, image.sized.chains) in search (rules, tests)))
    ∙ ap (λ n. all_below n test) image.sized.chains
