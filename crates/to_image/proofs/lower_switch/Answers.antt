-- `to_image::lower_switch` meets its contract: counted, refused by its counts, or built by its table and ended.
use Rattle.std.proofs.lemmas.Result.{err_from_is_err_and}
use Rattle.needs.proofs.CountLaws.{early-told, few-emitted}
use Rattle.to_image.proofs.AnswerLaws.{refused-early, answered}
use Rattle.to_image.proofs.WriteLaws.{switch-places}
use borrow.Author.Rules.{rules}
use Rattle.to_image.proofs.lower_switch.Goals as goal

pub overflow_cast-t : goal.overflow_cast-t
overflow_cast-t c =
    let few = few-emitted (early-told _ _ _ _ _ c.refusal.ensures) c.in_ok-refusal.was in
    search rules

pub returns-in_err-refusal : goal.returns-in_err-refusal
returns-in_err-refusal c =
    let p = err_from_is_err_and c.from_residual.result c.from_residual.ensures.1 in
    rw (p.1, p.2) (λ ok h. refused-early _ _ _ _ _ _ ok (c.switch_counts-t.ensures ok h).0 c.node_count.ensures
    c.refusal.ensures _ c.in_err-refusal.was)

pub returns : goal.returns
returns c =
    λ ok h.
    let decided = c.switch_counts-t.ensures ok h in
    let table = c.settle.ensures ok h decided.1 in
    answered _ _ _ _ _ _ ok decided.0 c.node_count.ensures c.refusal.ensures c.in_ok-refusal.was _ _ _ _ _
    (λ R. c.build_switch-words.ensures R h table.tables (table.placed (switch-places _ _ _ R h)))
    c.ended.ensures.zeroed c.build_switch-words.auto.scratch c.build_switch-words.auto.image c.ended.ensures.value
