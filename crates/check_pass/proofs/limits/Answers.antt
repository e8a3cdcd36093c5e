-- `check_pass::limits` meets its contract: the stores make the table of the definition.
use Rattle.check_pass.proofs.LimitLaws.{limits-read}
use Rattle.check_pass.proofs.limits.Goals as goal

pub returns : goal.returns
returns c =
    limits-read c.args.x c.args.blocks c.name_limits-t.ensures c.none-none.ensures c.last-block.ensures
