-- The call's name, the receiver's, and LoadNamed of its place.
use Rattle.std.proofs.Common.{ap, ◌∙◌, lit<}
use Rattle.sheet.specs.Node.{position}
use Rattle.expr_emit.proofs.CallDoes.{open-in-named}
use Rattle.expr_emit.proofs.calls.open_named.Goals as goal

pub returns-clause-does : goal.returns-clause-does
returns-clause-does c =
    λ l.
    let named = c.add_name-name.ensures.does l in
    let first = c.add_name-first.ensures.does l in
    let at-pos = c.position.ensures ∙ ap (position c.args.sheet.now) c.child-2.ensures in
    open-in-named _ _ _ c.child.ensures at-pos
    (record { does = named.0 (lit< tt); found = λ a v h. named.1 a (lit< tt) v h })
    (first.0 (lit< tt)) (λ a v h. first.1 a (lit< tt) v h)
    (c.emit.ensures.does l _ tt)
