-- `check_numbers::all_less` meets its contract.
use Rattle.std.proofs.Common.{rules, ltb, true, ◌∙◌}
use Rattle.std.proofs.lemmas.Iterator.{YieldsList-from_slice}
use Rattle.std.proofs.lemmas.Iterator.Consumers.{fold_from_yields_List}
use Rattle.words.specs.Word.{front}
use mathlib.Core.Bool.{◌&&◌}
use Rattle.check_numbers.proofs.LessLaws.{fold-all}
use Rattle.check_numbers.proofs.all_less.Goals as goal

pub returns : goal.returns
returns c =
    let x = c.args.x in
    fold_from_yields_List _ (λ a w. a && ltb (front w) x) _ _ c.fold.ensures.ran
    (YieldsList-from_slice c.args.numbers.now c.iter.ensures.rest)
    (λ a w b q k. search rules)
    ∙ fold-all (λ w. ltb (front w) x) true c.args.numbers.now
