-- `check_support::supported` meets its contract: the tests are the definition's.
use Rattle.check_support.specs.Support.{supported_by}
use Rattle.check_support.proofs.supported.Goals as goal

pub returns : goal.returns
unfolding supported_by
returns c = cc
