-- `scratch_folds::all_short` meets its contract: every text is looked at.
use Rattle.std.proofs.Common.{rules}
use borrow.Author.Tests.{tests}
use mathlib.Core.Path.{refl, ap, ◌∙◌}
use Rattle.words.specs.Count.{all_below}
use Rattle.words.proofs.RangeLaws.{all_below-range}
use Rattle.scratch_folds.specs.Sums.{is_short, all_short}
use Rattle.scratch_folds.proofs.all_short.Goals as goal

pub returns : goal.returns
unfolding all_short
returns c =
    all_below-range (is_short c.args.sheet.now) _ _ _ _ c.all.ensures.ran refl (λ x b q k. search (rules, tests))
    ∙ ap (λ n. all_below n (is_short c.args.sheet.now)) c.text_count-n.ensures
