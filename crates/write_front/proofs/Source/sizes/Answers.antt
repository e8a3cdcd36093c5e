-- `write_front::Source::sizes` meets its contract.
use Rattle.write_front.proofs.FrontLaws.{sizes-held}
use Rattle.write_front.proofs.Source.sizes.Goals as goal

pub returns : goal.returns
returns c =
    let t = c.args.tables in
    λ m h. sizes-held h c.min.result t.switches t.cases t.ranges c.min.ensures
