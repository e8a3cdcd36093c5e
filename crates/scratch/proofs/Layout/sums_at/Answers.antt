-- `scratch::Layout::sums_at` meets its contract.
use native.Mathlib.Omega.{arith}
use Rattle.scratch.specs.Places.{sums_from}
use Rattle.scratch.proofs.Layout.sums_at.Goals as goal

pub returns : goal.returns
unfolding sums_from
returns c = omega arith
