-- `image_depths::places_right` meets its contract: every place is looked at.
use Rattle.std.proofs.Common.{rules}
use borrow.Author.Tests.{tests}
use mathlib.Core.Path.{refl, ap, ◌∙◌}
use Rattle.words.specs.Count.{all_below}
use Rattle.words.proofs.RangeLaws.{all_below-range}
use Rattle.image_rule.specs.Marks.{mark, place_by}
use Rattle.image_depths.specs.Passing.{places_right}
use Rattle.image_depths.proofs.places_right.Goals as goal

pub returns : goal.returns
unfolding places_right
returns c =
    let w = c.args.image.now.words.now in
    let l = c.args.found.now in
    all_below-range (λ p. place_by (mark l p) w l p) _ _ _ _ c.all.ensures.ran refl (λ x b q k. search (rules, tests))
    ∙ ap (λ n. all_below n (λ p. place_by (mark l p) w l p)) c.args.image.now.sized.places
