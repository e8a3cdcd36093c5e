-- `check_support::supported_ok` meets its contract: every node is looked at.
use Rattle.std.proofs.Common.{rules}
use borrow.Author.Tests.{tests}
use mathlib.Core.Path.{refl, ap, ◌∙◌}
use Rattle.words.specs.Count.{all_below}
use Rattle.words.proofs.RangeLaws.{all_below-range}
use Rattle.check_support.specs.Support.{supported, support_by}
use Rattle.check_support.proofs.supported_ok.Goals as goal

pub returns : goal.returns
unfolding support_by
returns c =
    let test = supported c.args.sheet.now in
    all_below-range test _ _ _ _ c.all.ensures.ran refl (λ x b q k. search (rules, tests))
    ∙ ap (λ n. all_below n test) c.node_count.ensures
