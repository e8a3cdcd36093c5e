-- `switch_places::second` meets its contract.
use Rattle.std.proofs.Common.{rules}
use mathlib.Core.Path.{ap}
use mathlib.Core.Bool.{not}
use borrow.Author.Tests.{eq-eqb, ne_eqb}
use Rattle.switch_places.proofs.SmallLaws.{second-some, second_none}
use Rattle.switch_places.proofs.second.Goals as goal

pub returns-then-any : goal.returns-then-any
returns-then-any c =
    second-some _ _ _ _ _ _ _ c.at-any.ensures c.case_idle.ensures (search rules) c.word.ensures
    c.put.ensures _ _ (ap not (ne_eqb c.at-any.result 0 c.if-any.true)) c.instructions.ensures c.plus.ensures

pub returns : goal.returns
returns c =
    second_none _ _ _ _ _ _ _ c.at-any.ensures c.case_idle.ensures (search rules) c.word.ensures
    c.put.ensures (ap not (eq-eqb c.at-any.result 0 c.if-any.false))
