-- `Siblings::next` meets its contract: the first of the siblings that are left, or none.
use Rattle.sheet.proofs.WalkLaws.{sibling_list-none, sibling_list-first}
use Rattle.sheet.proofs.SiblingsIterator.next.Goals as goal

pub returns-then-self-eq0-clause-steps : goal.returns-then-self-eq0-clause-steps
returns-then-self-eq0-clause-steps c =
    let a = c.args.self.now in
    let none = sibling_list-none a.sheet.now a.left a.at c.if-self-eq0.true in (none, none)

pub returns-clause-steps : goal.returns-clause-steps
returns-clause-steps c =
    let a = c.args.self.now in
    sibling_list-first a.sheet.now a.left a.at _ c.if-self-eq0.false c.next-self.ensures
