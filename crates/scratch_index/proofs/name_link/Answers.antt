-- `scratch_index::name_link` meets its contract.
use Rattle.scratch_index.specs.Names.{name_slot}
use Rattle.std.proofs.Common.{rules}
use Rattle.scratch_index.proofs.name_link.Goals as goal

pub returns : goal.returns
unfolding name_slot
returns c = search rules
