-- `check_depth::depth_ok` meets its contract: node 0 is at depth 1.
use Rattle.check_depth.specs.Depth.{depth_by}
use Rattle.check_depth.proofs.depth_ok.Goals as goal

pub returns : goal.returns
unfolding depth_by
returns c = cc
