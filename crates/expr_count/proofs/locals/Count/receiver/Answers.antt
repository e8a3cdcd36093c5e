-- `expr_count::locals::Count::receiver` meets its contract: by the receiver that the call has.
use mathlib.Core.Path.{sym, ap, ◌∙◌}
use Rattle.expr_rules.specs.Answers.{first_of}
use Rattle.expr_count.specs.Locals.{answer}
use Rattle.expr_count.proofs.LocalLaws.{receiver-some, receiver-nothing}
use Rattle.expr_count.proofs.locals.Count.receiver.Goals as goal

pub returns-in-Some : goal.returns-in-Some
returns-in-Some c =
    let a = c.args in
    let it = a.self.now in
    let s = it.sheet.now in
    c.first.ensures
    ∙ ap first_of (sym (receiver-some (answer it.told s) s a.j _ (sym c.receiver_node.ensures ∙ c.in-Some.is)))

pub returns-in-None : goal.returns-in-None
returns-in-None c =
    let a = c.args in
    let it = a.self.now in
    let s = it.sheet.now in
    receiver-nothing (answer it.told s) s a.j (sym c.receiver_node.ensures ∙ c.in-None.is)
