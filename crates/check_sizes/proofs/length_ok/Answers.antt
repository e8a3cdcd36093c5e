-- `check_sizes::length_ok` meets its contract: the sections end where the definition says.
use Rattle.check_sizes.specs.Sizes.{length_ok}
use Rattle.check_sizes.proofs.length_ok.Goals as goal

pub returns : goal.returns
unfolding length_ok
returns c = cc
