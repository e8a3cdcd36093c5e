-- `scratch_locals::by_name` meets its contract.
use Rattle.scratch_locals.proofs.by_name.Goals as goal

pub returns : goal.returns
returns c = cc
