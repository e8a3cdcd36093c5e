-- `check_switches::counts_ok` meets its contract: the ranges are the children left.
use Rattle.check_switches.proofs.ReadLaws.{counts-read}
use Rattle.check_switches.proofs.counts_ok.Goals as goal

pub returns : goal.returns
returns c =
    let s = c.args.sheet.now in
    counts-read s c.field_a-blocks.ensures c.field_b-cases.ensures c.count.ensures
