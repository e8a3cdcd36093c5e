-- `switch_emit::bodies::body` meets its contract.
use Rattle.std.proofs.Common.{refl, sym, ◌∙◌, eq-eqb, ne_eqb}
use Rattle.switch_emit.proofs.BodyDoes.{body-lowers, body-passes}
use Rattle.switch_emit.proofs.bodies.body.Goals as goal

pub returns-then-get-eq1-clause-does : goal.returns-then-get-eq1-clause-does
returns-then-get-eq1-clause-does c =
    λ l drop e C G h.
    body-lowers c.args.flat.now _ _ c.args.store.now.state _ _ _ (eq-eqb _ 1 (sym c.get.ensures ∙ c.if-get-eq1.true))
    c.get-then-get-eq1.ensures c.next-j.ensures refl C G h c.at_depth.ensures
    (c.expression.ensures.does l)
    (c.jump.ensures.does l _ _ _ e)

pub returns-else-get-eq1-clause-does : goal.returns-else-get-eq1-clause-does
returns-else-get-eq1-clause-does c =
    λ l drop e C G h. body-passes c.args.flat.now _ _ (ne_eqb _ 1 (λ e. c.if-get-eq1.false (c.get.ensures ∙ e)))
