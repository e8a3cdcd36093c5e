-- Each name is looked up, or the scratch tells the locals.
use Rattle.std.proofs.Common.{◌-◌, length, take, drop, ap, refl, ◌∙◌, arith}
use Rattle.expr_count.specs.Locals.{answer}
use Rattle.expr_emit.proofs.EndLaws.{slot-told, rest_is}
use Rattle.expr_emit.proofs.ends.told.Goals as goal

pub returns-then-local_count-le-FEW : goal.returns-then-local_count-le-FEW
unfolding answer
returns-then-local_count-le-FEW c = λ nodes S v is. refl

pub returns-in-Some : goal.returns-in-Some
unfolding answer
returns-in-Some c = λ nodes S v is.
    let at = c.links_at.result in
    let all = ap (λ xs. take (length xs - at) (drop at xs)) c.words.ensures in
    rw (c.in-Some.ensures.lookup.0.2 ∙ all ∙ rest_is at c.args.store.now.scratch.now)
    (slot-told at v (S.many (omega (arith, c.local_count.ensures, c.if-local_count-le-FEW.false))) nodes c.links_at.ensures is)

pub returns-in-None : goal.returns-in-None
unfolding answer
returns-in-None c = λ nodes S v is. refl
