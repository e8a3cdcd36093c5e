-- `switch_places::chained::ended` meets its contract.
use mathlib.Core.Path.{refl}
use Rattle.switch_count.specs.Arms.{end_tally}
use Rattle.switch_places.specs.GuardChain.{either, sum_in, tries_in}
use Rattle.switch_places.proofs.BodyLaws.{capped-none}
use Rattle.switch_places.proofs.chained.ended.Goals as goal

pub returns-in-Some : goal.returns-in-Some
unfolding end_tally either sum_in tries_in
returns-in-Some c =
    let is = c.in-Some.is in
    record { sum_value = λ l m. rw is (rw c.instructions.ensures at c.plus.ensures); exit_value = rw is refl }

pub returns-in-None : goal.returns-in-None
unfolding end_tally either sum_in tries_in
returns-in-None c =
    let is = c.in-None.is in
    record { sum_value = λ l m. rw (is, c.nothing.ensures) (capped-none _ (rw is at l, rw is at m)); exit_value = rw is refl }
