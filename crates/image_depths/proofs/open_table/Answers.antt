-- `image_depths::open_table` meets its contract.
use Rattle.image_depths.proofs.MarkLaws.{open-switch, open-none}
use Rattle.image_depths.proofs.open_table.Goals as goal

pub returns-in-Table : goal.returns-in-Table
returns-in-Table c =
    let a = c.args in
    λ p. open-switch a.image.now.words.now a.c p a.m _ _ _ _ c.in-Table.is c.enter.ensures

pub returns-in-Branch : goal.returns-in-Branch
returns-in-Branch c =
    let a = c.args in
    λ p R Q h. open-none a.image.now.words.now a.c p a.m _ _ c.in-Branch.is R
