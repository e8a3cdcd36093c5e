-- `sheet::skip` meets its contract: each step goes on to the next sibling.
use Rattle.std.proofs.Common.{rules, refl}
use borrow.Author.Tests.{tests}
use Rattle.sheet.proofs.RangeWalkLaws.{fold_skip}
use Rattle.sheet.proofs.skip.Goals as goal

pub returns : goal.returns
returns c = fold_skip c.args.sheet.now c.args.m c.args.j _ c.fold.ensures.ran refl (λ a x b q k. search (rules, tests))
