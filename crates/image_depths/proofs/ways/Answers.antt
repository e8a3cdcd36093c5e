-- `image_depths::ways` meets its contract.
use Rattle.image_depths.proofs.MarkLaws.{ways-table, ways-branch, ways-jump, ways-on}
use Rattle.image_depths.proofs.ways.Goals as goal

pub returns-in-Table : goal.returns-in-Table
returns-in-Table c =
    let a = c.args in
    λ R. ways-table a.image.now.words.now a.p a.c R _ _ c.in-Table.is c.table_node.ensures.value c.table_node-in-Table.ensures.value

pub returns-in-Branch : goal.returns-in-Branch
returns-in-Branch c = λ R. ways-branch c.args.image.now.words.now c.args.p c.args.c R c.in-Branch.is

pub returns-in-Jump : goal.returns-in-Jump
returns-in-Jump c = λ R. ways-jump c.args.image.now.words.now c.args.p c.args.c R c.in-Jump.is

pub returns-in-On : goal.returns-in-On
returns-in-On c = λ R. ways-on c.args.image.now.words.now c.args.p c.args.c R c.in-On.is
