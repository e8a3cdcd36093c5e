-- `expr_count::locals::told_by` meets its contract: a node by its word, what is no node by its name.
use mathlib.Core.Path.{ap, ◌∙◌}
use mathlib.Core.Bool.{not}
use native.Mathlib.Omega.{arith}
use lib.Dec.{eqb}
use Rattle.expr_count.proofs.LocalLaws.{told-each, told-outside}
use Rattle.expr_count.proofs.locals.told_by.Goals as goal

pub returns-then-v-node_count : goal.returns-then-v-node_count
returns-then-v-node_count c =
    let a = c.args in
    ap (λ n. not (eqb n 0)) c.get.ensures
    ∙ told-each a.words.now a.sheet.now a.v c.node_count.ensures c.if-v-node_count.true

pub returns : goal.returns
returns c =
    let a = c.args in
    c.sought.ensures
    ∙ told-outside a.words.now a.sheet.now a.v c.node_count.ensures (let n = c.if-v-node_count.false in omega arith)
