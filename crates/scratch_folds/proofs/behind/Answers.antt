-- `scratch_folds::behind` meets its contract.
use native.Mathlib.Omega.{arith}
use Rattle.scratch_folds.specs.Sums.{behind}
use Rattle.scratch_folds.proofs.behind.Goals as goal

pub returns : goal.returns
unfolding behind
returns c = omega arith
