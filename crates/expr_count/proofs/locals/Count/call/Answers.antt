-- `expr_count::locals::Count::call` meets its contract, receiver by receiver.
use mathlib.Core.Path.{sym, ap, ◌∙◌}
use native.Mathlib.Omega.{arith}
use Prim.Native.Nat.{◌+◌}
use Rattle.expr_rules.proofs.InverseLaws.{first_from}
use Rattle.expr_count.proofs.PlanLaws.{call_at, moves-least}
use Rattle.expr_count.specs.Locals.{answer}
use Rattle.expr_count.specs.Plan.{all_args, other_args, call_by}
use Rattle.expr_count.proofs.locals.Count.call.Goals as goal

pub overflow_add-moves : goal.overflow_add-moves
overflow_add-moves c = let it = c.args.self.now in omega (arith, c.moves.ensures, moves-least it.sheet.now c.args.j)

pub returns-in-Local : goal.returns-in-Local
unfolding call_by first_from
returns-in-Local c =
    let a = c.args in
    let it = a.self.now in
    c.others.ensures ∙ call_at it.sheet.now a.j (answer it.told it.sheet.now) _
    (sym c.receiver.ensures ∙ c.in-Local.is)

pub returns-in-Named : goal.returns-in-Named
unfolding call_by first_from
returns-in-Named c =
    let a = c.args in
    let it = a.self.now in
    let s = it.sheet.now in
    c.others-in-Named.ensures
    ∙ ap (λ n. other_args s a.j (2 + n)) c.moves.ensures
    ∙ call_at s a.j (answer it.told s) _
    (sym c.receiver.ensures
    ∙ c.in-Named.is)

pub returns-in-This : goal.returns-in-This
unfolding call_by first_from
returns-in-This c =
    let a = c.args in
    let it = a.self.now in
    c.others-in-This.ensures ∙ call_at it.sheet.now a.j (answer it.told it.sheet.now) _
    (sym c.receiver.ensures ∙ c.in-This.is)

pub returns-in-Value : goal.returns-in-Value
unfolding call_by all_args first_from
returns-in-Value c =
    let a = c.args in
    let it = a.self.now in
    c.operands.ensures ∙ call_at it.sheet.now a.j (answer it.told it.sheet.now) _
    (sym c.receiver.ensures ∙ c.in-Value.is)
