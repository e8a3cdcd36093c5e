-- `expr_chains::link_count` meets its contract: as many links as the iterator gives.
use mathlib.Core.Path.{refl, ◌∙◌}
use mathlib.Core.Logic.{inl}
use native.Mathlib.Omega.{arith}
use Rattle.std.proofs.lemmas.Iterator.Consumers.{count_from_yields_List, YieldsList-from_first}
use Rattle.expr_rules.specs.Links.{links_left}
use Rattle.expr_chains.proofs.LinkLaws.{links-most}
use Rattle.expr_chains.proofs.WalkedLaws.{count-told}
use Rattle.expr_chains.proofs.link_count.Goals as goal

pub count-requires-clause-fits : goal.count-requires-clause-fits
count-requires-clause-fits c =
    let a = c.args in
    inl (omega (arith, count-told a.sheet.now a.j c.links_of.result c.links_of.ensures, links-most a.sheet.now a.j))

pub overflow_cast-result : goal.overflow_cast-result
overflow_cast-result c =
    let a = c.args in
    let told = count-told a.sheet.now a.j c.links_of.result c.links_of.ensures in
    omega (arith, c.count.ensures.bound, told, links-most a.sheet.now a.j)

pub returns : goal.returns
returns c =
    count_from_yields_List c.links_of.result c.count.result c.count.ensures.ran (YieldsList-from_first (λ x. x) links_left _ refl)
    ∙ count-told c.args.sheet.now c.args.j c.links_of.result c.links_of.ensures
