-- `check_switches::apart_from` meets its contract: every Case that is left is looked at.
use Rattle.std.proofs.Common.{rules}
use borrow.Author.Tests.{tests}
use Rattle.sheet.proofs.SiblingLaws.{list_all-walk}
use Rattle.check_switches.specs.Switch.{apart}
use Rattle.check_switches.proofs.apart_from.Goals as goal

pub returns : goal.returns
returns c =
    let a = c.args in
    list_all-walk (apart a.sheet.now a.p) c.all.new.self _ _ c.all.ensures.ran (λ x b q k. search (rules, tests))
