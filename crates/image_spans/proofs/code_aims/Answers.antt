-- `image_spans::code_aims` meets its contract: every instruction is looked at.
use Rattle.std.proofs.Common.{rules}
use borrow.Author.Tests.{tests}
use Prim.Native.Nat.{ℕ, ◌<◌}
use mathlib.Core.Path.{refl, ap, ◌∙◌}
use mathlib.Core.Bool.{Bool}
use native.Mathlib.Omega.{arith}
use Rattle.words.specs.Count.{all_below}
use Rattle.lowering.specs.Words.{instructions}
use Rattle.image_rule.specs.Marks.{flow_at}
use Rattle.image_rule.specs.Test as test
use Rattle.image_read.proofs.BelowLaws.{all_below-under}
use Rattle.image_spans.proofs.code_aims.Goals as goal

pub returns : goal.returns
unfolding test.targets_right
returns c =
    let image = c.args.image.now in
    let w = image.words.now in
    let aims : ℕ → Bool = λ p. test.aims (flow_at w p) w p in
    λ T.
    all_below-under aims _ _ _ _ c.all.ensures.ran refl
    (λ x b q k. (search (rules, tests), λ h. let inside : x < instructions w = omega (arith, h, image.sized.places) in search (rules, tests)))
    ∙ ap (λ n. all_below n aims) image.sized.places
