-- `scratch::clear` meets its contract: a run that is filled at once is the same as its words set one by one.
use Rattle.scratch.proofs.ClearLaws.{cleared-run}
use Rattle.scratch.proofs.clear.Goals as goal

pub returns : goal.returns
returns c =
    let a = c.args in
    cleared-run a.at a.n _ _ a.scratch.now _ c.min-start.ensures c.min-stop.ensures (c.fill.ensures.after (λ y e. e))
