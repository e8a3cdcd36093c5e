-- One law for each way with something before the arguments, and one for the others.
use Rattle.std.proofs.Common.{ap, ◌∙◌, lit<}
use Rattle.sheet.specs.Node.{position}
use Rattle.expr_emit.specs.declared.calls.Way.TheVariants.{InNamed, InThis}
use Rattle.expr_emit.proofs.CallDoes.{open-named, open-this, open-own, open-by, open-none}
use Rattle.expr_emit.proofs.calls.Way.open.Goals as goal

pub returns-in-Named-clause-does : goal.returns-in-Named-clause-does
returns-in-Named-clause-does c =
    λ l.
    let named = c.add_name-first.ensures.does l in
    open-named _ _ _ _ c.in-Named.is c.child.ensures (named.0 (lit< tt))
    (λ a u h. named.1 a (lit< tt) u h)

pub returns-in-This-clause-does : goal.returns-in-This-clause-does
returns-in-This-clause-does c =
    λ l.
    let at-pos = c.position.ensures ∙ ap (position c.args.sheet.now) c.child-in-This.ensures in
    open-this _ _ _ c.in-This.is at-pos (c.emit.ensures.does l _ tt)

pub returns-in-InLocal-clause-does : goal.returns-in-InLocal-clause-does
returns-in-InLocal-clause-does c =
    λ l.
    let named = c.add_name-name.ensures.does l in
    open-own _ _ c.in-InLocal.is
    (record { does = named.0 (lit< tt); found = λ a v h. named.1 a (lit< tt) v h })

pub returns-in-InNamed-clause-does : goal.returns-in-InNamed-clause-does
returns-in-InNamed-clause-does c = λ l.
    open-by _ _ InNamed c.in-InNamed.is (c.open_named.ensures.does l)

pub returns-in-InThis-clause-does : goal.returns-in-InThis-clause-does
returns-in-InThis-clause-does c = λ l.
    open-by _ _ InThis c.in-InThis.is (c.open_this.ensures.does l)

pub returns-in-FnPtr-clause-does : goal.returns-in-FnPtr-clause-does
returns-in-FnPtr-clause-does c = λ l. open-none _ _ c.in-FnPtr.is
