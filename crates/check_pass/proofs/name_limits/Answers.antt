-- `check_pass::name_limits` meets its contract: the stores make the rows of the definition.
use Rattle.check_pass.proofs.LimitLaws.{names-read}
use Rattle.check_pass.proofs.name_limits.Goals as goal

pub returns : goal.returns
returns c =
    names-read c.args.x c.none.ensures c.any_of-most.ensures c.last-text.ensures
