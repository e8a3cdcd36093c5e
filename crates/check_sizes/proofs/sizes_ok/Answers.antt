-- `check_sizes::sizes_ok` meets its contract: the three tests are those of the definition.
use Rattle.check_sizes.specs.Sizes.{sizes_ok}
use Rattle.check_sizes.proofs.sizes_ok.Goals as goal

pub returns : goal.returns
unfolding sizes_ok
returns c = cc
