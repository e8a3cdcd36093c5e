-- `check_numbers::numbers_ok` meets its contract: the tests are the definition's.
use Rattle.check_numbers.specs.Numbers.{numbers_by}
use mathlib.Core.Path.{ap₂}
use mathlib.Core.Bool.{◌&&◌}
use Rattle.check_numbers.proofs.numbers_ok.Goals as goal

pub returns : goal.returns
unfolding numbers_by
returns c = ap₂ ◌&&◌ c.node_numbers_ok-nodes.ensures c.locals_ok-locals.ensures
