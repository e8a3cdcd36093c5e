-- `needs::need_of` meets its contract: refused by its counts, or the words by its counts.
use Rattle.std.proofs.lemmas.Result.{err_from_is_err_and}
use Rattle.needs.proofs.CountLaws.{over-few, over-told}
use Rattle.needs.proofs.NeedLaws.{counted-refused, counted_words}
use borrow.Author.Rules.{rules}
use Rattle.needs.proofs.need_of.Goals as goal

pub overflow_cast-t : goal.overflow_cast-t
overflow_cast-t c =
    let few = over-few (over-told _ _ _ c.over_limits.ensures) c.in_ok-over_limits.was in
    search rules

pub returns-in_err-over_limits : goal.returns-in_err-over_limits
returns-in_err-over_limits c =
    let p = err_from_is_err_and c.from_residual.result c.from_residual.ensures.1 in
    rw (p.1, p.2) (λ ok. counted-refused _ ok (c.counts-t.ensures ok) c.over_limits.ensures _ c.in_err-over_limits.was)

pub returns : goal.returns
returns c =
    λ ok. counted_words _ ok (c.counts-t.ensures ok) c.over_limits.ensures c.in_ok-over_limits.was _ _
    c.node_count.ensures c.scratch_words.ensures
