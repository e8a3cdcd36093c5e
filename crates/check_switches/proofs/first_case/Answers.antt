-- `check_switches::first_case` meets its contract: K siblings, K more and one more are passed.
use Rattle.check_switches.proofs.ReadLaws.{first_read}
use Rattle.check_switches.proofs.first_case.Goals as goal

pub returns : goal.returns
returns c =
    let s = c.args.sheet.now in
    first_read s c.field_a-blocks.ensures c.child.ensures c.skip-j.ensures c.skip.ensures
    c.next.ensures
