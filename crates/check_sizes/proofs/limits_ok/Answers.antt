-- `check_sizes::limits_ok` meets its contract: the sizes read are those of the definition.
use Rattle.check_sizes.specs.Sizes.{limits_ok}
use Rattle.check_sizes.proofs.limits_ok.Goals as goal

pub returns : goal.returns
unfolding limits_ok
returns c = cc
