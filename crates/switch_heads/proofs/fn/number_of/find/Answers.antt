-- The closure of `switch_heads::number_of` meets its contract: a list is compared where its hash is the same.
use Rattle.switch_heads.proofs.SearchLaws.{met-compared, met-other}
use Rattle.switch_heads.proofs.fn.number_of.find.Goals as goal

pub returns-then-get-h : goal.returns-then-get-h
returns-then-get-h g c =
    λ p. met-compared _ _ _ _ _ _ _ _ c.get.ensures c.if-get-h.true _ _ c.get-then-get-h.ensures (c.same_list.ensures p)

pub returns-else-get-h : goal.returns-else-get-h
returns-else-get-h g c = λ p. met-other _ _ _ _ _ _ _ _ c.get.ensures c.if-get-h.false
