-- `switch_intervals::closed` meets its contract, by whether a band is open.
use Rattle.switch_intervals.proofs.JoiningLaws.{closed-some, closed-none}
use Rattle.switch_intervals.proofs.closed.Goals as goal

pub returns-in-Some : goal.returns-in-Some
returns-in-Some c =
    let both = closed-some _ _ _ _ _ _ _ c.in-Some.is c.requires.before c.put.ensures c.put-in-Some.ensures in
    record { value = both.0; table_after = both.1 }

pub returns-in-None : goal.returns-in-None
returns-in-None c =
    let both = closed-none _ _ _ _ c.in-None.is in
    record { value = both.0; table_after = both.1 }
