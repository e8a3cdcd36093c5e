-- `check_pass::node` meets its contract: eight words in a row are the node's.
use Rattle.check_pass.proofs.WordLaws.{node-words}
use Rattle.check_pass.proofs.node.Goals as goal

pub returns : goal.returns
returns c =
    node-words _ _ c.whole.ensures c.whole-2.ensures c.whole-3.ensures c.whole-3.type_inv
    c.whole-4.ensures c.whole-5.ensures c.whole-6.ensures c.whole-7.ensures c.whole-8.ensures
