-- `needs::refusal` meets its contract: one law for each answer.
use Rattle.std.proofs.lemmas.Result.{err_from_is_err_and}
use Rattle.needs.proofs.CountLaws.{over-few, over-told, early-over, early-short, early-none}
use borrow.Author.Rules.{rules}
use Rattle.needs.proofs.refusal.Goals as goal

pub overflow_cast-t : goal.overflow_cast-t
overflow_cast-t c =
    let few = over-few (over-told _ _ _ c.over_limits.ensures) c.in_ok-over_limits.was in
    search rules

pub returns-in_err-over_limits : goal.returns-in_err-over_limits
returns-in_err-over_limits c =
    let p = err_from_is_err_and c.from_residual.result c.from_residual.ensures.1 in
    rw (p.1, p.2) (early-over _ _ (over-told _ _ _ c.over_limits.ensures) c.in_err-over_limits.was)

pub returns-then-scratch-scratch_words : goal.returns-then-scratch-scratch_words
returns-then-scratch-scratch_words c =
    let way = over-told _ _ _ c.over_limits.ensures in
    early-short _ _ c.scratch_words.ensures way c.in_ok-over_limits.was c.if-scratch-scratch_words.true

pub returns : goal.returns
returns c =
    let way = over-told _ _ _ c.over_limits.ensures in
    early-none _ _ c.scratch_words.ensures way c.in_ok-over_limits.was c.if-scratch-scratch_words.false
