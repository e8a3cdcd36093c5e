-- `check_names::Lengths::locals_ok` meets its contract: every local's name is looked at.
use Rattle.std.proofs.Common.{rules}
use borrow.Author.Tests.{tests}
use mathlib.Core.Path.{refl, ap, ◌∙◌}
use Rattle.words.specs.Count.{all_below}
use Rattle.words.proofs.RangeLaws.{all_below-range}
use Rattle.check_names.specs.Names.{local_name_ok, local_names_by}
use Rattle.check_names.proofs.ReadLaws.{local-at}
use Rattle.check_names.proofs.Lengths.locals_ok.Goals as goal

pub returns : goal.returns
unfolding local_names_by
returns c =
    let s = c.args.self.now.sheet.now in
    let test = local_name_ok s in
    all_below-range test _ _ _ _ c.all.ensures.ran refl
    (λ l b q k.
    let is = local-at s l c.locals_at-at.ensures.0 in
    search (rules, tests))
    ∙ ap (λ n. all_below n test) c.local_count-m.ensures
