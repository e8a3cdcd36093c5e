-- The cycle of calls {start_within}: the first children left fall by one at each call, and each return is a law of the definition.
use Rattle.std.proofs.Common.{sym, ap, ◌∙◌}
use Rattle.sheet.proofs.StartLaws.{start-spent, start-inside, start-own}
use Rattle.sheet.specs.Start.{starts_inside}
use Rattle.sheet.proofs.+start_within.Goals as goal

pub returns-then-left-eq0 : goal.returns-then-left-eq0
returns-then-left-eq0 t c =
    cc (start-spent c.args.left c.args.sheet.now c.args.n c.if-left-eq0.true)

pub returns-then-k : goal.returns-then-k
returns-then-k t c =
    let a = c.args in
    cc
    (start-inside a.left a.sheet.now a.n c.if-left-eq0.false
    (ap starts_inside (sym c.kind-k.ensures) ∙ c.if-k.true))

pub returns : goal.returns
returns t c =
    let a = c.args in
    cc
    (start-own a.left a.sheet.now a.n
    (ap starts_inside (sym c.kind-k.ensures) ∙ c.if-k.false))
