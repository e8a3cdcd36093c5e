-- `scratch_locals::found_by` meets its contract.
use Rattle.scratch_locals.proofs.SettleLaws.{found_is}
use Rattle.scratch_locals.proofs.found_by.Goals as goal

pub returns : goal.returns
returns c = found_is c.args.a _ c.checked_sub.ensures
