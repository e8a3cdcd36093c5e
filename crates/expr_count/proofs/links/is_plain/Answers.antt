-- `expr_count::links::is_plain` meets its contract: the tests are the definition's.
use Rattle.expr_count.proofs.LinkLaws.{plain-not, plain_by}
use Rattle.expr_count.proofs.links.is_plain.Goals as goal

pub returns-then-goes_on : goal.returns-then-goes_on
returns-then-goes_on c =
    let a = c.args in
    plain-not a.sheet.now a.j c.goes_on.ensures c.if-goes_on.true

pub returns : goal.returns
returns c =
    let a = c.args in
    plain_by a.sheet.now a.j c.goes_on.ensures c.if-goes_on.false c.rest_of-rest.ensures
    c.child.ensures
    c.temporary-none.ensures c.kind.ensures c.kind-2.ensures
