-- `check_texts::Texts::all_inside` meets its contract: every text is looked at. Assumes nothing.
use Rattle.std.proofs.Common.{rules}
use borrow.Author.Tests.{tests}
use mathlib.Core.Path.{refl, ap, ◌∙◌}
use Rattle.words.specs.Count.{all_below}
use Rattle.words.proofs.RangeLaws.{all_below-range}
use Rattle.check_texts.specs.Plain.{inside}
use Rattle.check_texts.proofs.Texts.all_inside.Goals as goal

pub returns : goal.returns
returns c =
    let test = inside c.args.self.now.sheet.now in
    all_below-range test _ _ _ _ c.all.ensures.ran refl (λ x b q k. search (rules, tests))
    ∙ ap (λ n. all_below n test) c.args.self.now.read.count_is
