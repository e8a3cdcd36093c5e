-- A variable: with a namespace a name; else a local, or a name.
use Rattle.std.proofs.Common.{refl, sym, ◌∙◌}
use Rattle.sheet.proofs.NamespaceLaws.{plain-here, qualified-here}
use Rattle.scratch_store.proofs.DoesLaws.{held-slots, does-held}
use Rattle.expr_emit.proofs.LeafDoes.{unmarked-plain, variable-qualified, variable-local, variable-named}
use Rattle.expr_emit.proofs.leaves.variable.Goals as goal

pub returns-then-namespace-ne0-clause-does : goal.returns-then-namespace-ne0-clause-does
returns-then-namespace-ne0-clause-does c =
    λ l.
    λ p v.
    let a = c.args in
    let q = qualified-here a.sheet.now a.j (λ e. c.if-namespace-ne0.true (c.namespace.ensures ∙ e)) in
    variable-qualified _ q (c.load_qualified.ensures.does l p v)

pub returns-in-Some-clause-does : goal.returns-in-Some-clause-does
returns-in-Some-clause-does c =
    λ l.
    λ p v.
    let args = c.args in
    let q = plain-here args.sheet.now args.j (sym c.namespace.ensures ∙ c.if-namespace-ne0.false) in
    does-held (λ a h.
    variable-local _ _ _ q (c.local_of.ensures (rw c.words.ensures (held-slots refl h)))
    c.in-Some.is
    (c.emit.ensures.does l _ tt))

pub returns-in-None-clause-does : goal.returns-in-None-clause-does
returns-in-None-clause-does c =
    λ l.
    λ p v.
    let args = c.args in
    let none = sym c.namespace.ensures ∙ c.if-namespace-ne0.false in
    let q = plain-here args.sheet.now args.j none in
    does-held (λ a h.
    variable-named _ _ q (c.local_of.ensures (rw c.words.ensures (held-slots refl h)))
    c.in-None.is
    (c.load_named.ensures.does l (unmarked-plain args.sheet.now args.j none p) v))
