-- `check_sizes::pad_ok` meets its contract: the byte read is the one that the definition names.
use Rattle.check_sizes.specs.Sizes.{pad_ok}
use Rattle.check_sizes.proofs.pad_ok.Goals as goal

pub returns : goal.returns
unfolding pad_ok
returns c = cc
