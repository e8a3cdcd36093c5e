-- `check_sizes::padding_ok` meets its contract: at most three bytes are padding.
use Rattle.check_sizes.specs.Sizes.{padding_ok}
use Rattle.check_sizes.proofs.padding_ok.Goals as goal

pub returns : goal.returns
unfolding padding_ok
returns c = cc
