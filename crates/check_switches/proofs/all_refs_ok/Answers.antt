-- `check_switches::all_refs_ok` meets its contract: every Case is looked at.
use Rattle.std.proofs.Common.{rules}
use borrow.Author.Tests.{tests}
use Rattle.sheet.proofs.SiblingLaws.{siblings-all}
use Rattle.check_switches.specs.Switch.{refs_ok}
use Rattle.check_switches.proofs.all_refs_ok.Goals as goal

pub returns : goal.returns
returns c =
    let a = c.args in
    siblings-all (refs_ok a.sheet.now) c.all.new.self _ _ c.all.ensures.ran a.sheet.now a.m a.at (cc) (λ x b q k. search (rules, tests))
