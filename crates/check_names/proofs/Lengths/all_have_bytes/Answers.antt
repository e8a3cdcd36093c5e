-- `check_names::Lengths::all_have_bytes` meets its contract: every text is looked at.
use Rattle.std.proofs.Common.{rules}
use borrow.Author.Tests.{tests}
use mathlib.Core.Path.{refl, ap, ◌∙◌}
use Rattle.words.specs.Count.{all_below}
use Rattle.words.proofs.RangeLaws.{all_below-range}
use Rattle.check_names.specs.Names.{has_bytes}
use Rattle.check_names.proofs.Lengths.all_have_bytes.Goals as goal

pub returns : goal.returns
returns c =
    let test = has_bytes c.args.self.now.sheet.now in
    all_below-range test _ _ _ _ c.all.ensures.ran refl (λ x b q k. search (rules, tests))
    ∙ ap (λ n. all_below n test) c.text_count-x.ensures
