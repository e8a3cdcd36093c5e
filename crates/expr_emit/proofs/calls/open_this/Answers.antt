-- The call's name, then LoadThis.
use Rattle.std.proofs.Common.{ap, ◌∙◌, lit<}
use Rattle.sheet.specs.Node.{position}
use Rattle.expr_emit.proofs.CallDoes.{open-in-this}
use Rattle.expr_emit.proofs.calls.open_this.Goals as goal

pub returns-clause-does : goal.returns-clause-does
returns-clause-does c =
    λ l.
    let named = c.add_name-name.ensures.does l in
    let at-pos = c.position.ensures ∙ ap (position c.args.sheet.now) c.child.ensures in
    open-in-this _ _ at-pos
    (record { does = named.0 (lit< tt); found = λ a v h. named.1 a (lit< tt) v h })
    (c.emit.ensures.does l _ tt)
