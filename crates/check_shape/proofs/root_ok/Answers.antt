-- `check_shape::root_ok` meets its contract: the tests are the definition's.
use Rattle.check_shape.proofs.ReadLaws.{root-read}
use Rattle.check_shape.proofs.root_ok.Goals as goal

pub returns : goal.returns
returns c =
    let s = c.args.sheet.now in
    root-read s c.kind-k.ensures c.expression.ensures c.span.ensures c.node_count.ensures
