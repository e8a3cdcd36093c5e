-- `switch_heads::numbered` meets its contract: the list's hash and its number are those of the list of `k`.
use native.Mathlib.Omega.{arith}
use Rattle.switch_heads.proofs.SearchLaws.{put-met, put-first}
use Rattle.switch_heads.proofs.numbered.Goals as goal

pub returns-in-Some-clause-number : goal.returns-in-Some-clause-number
returns-in-Some-clause-number g c =
    λ told hashed.
    let list = c.list-list.ensures in
    let search = c.number_of.ensures in
    let number = search.number told (c.hash-h.ensures list.upper_bound) hashed in
    put-met _ _ _ _ _ _ _ _ _ (list.list told (omega arith)) _ number _ _ c.in-Some.is search.upper_bound c.put.ensures

pub returns-in-None-clause-number : goal.returns-in-None-clause-number
returns-in-None-clause-number g c =
    λ told hashed.
    let list = c.list-list.ensures in
    let hash = c.hash-h.ensures list.upper_bound in
    let number = c.number_of.ensures.number told hash hashed in
    put-first _ _ _ _ _ _ _ _ _ (list.list told (omega arith)) _ number _ _ _ _ c.in-None.is hash c.put-in-None.ensures
    c.put-in-None-2.ensures c.put-in-None-3.ensures
