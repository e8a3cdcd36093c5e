-- `switch_places::guards::put_known` meets its contract.
use Rattle.switch_places.specs.Known.{with_known}
use Rattle.switch_places.proofs.guards.put_known.Goals as goal

pub returns : goal.returns
unfolding with_known
returns c = cc
