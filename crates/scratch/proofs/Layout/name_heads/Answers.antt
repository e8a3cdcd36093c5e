-- `scratch::Layout::name_heads` meets its contract.
use native.Mathlib.Omega.{arith}
use Rattle.scratch.specs.Places.{name_heads}
use Rattle.scratch.proofs.Layout.name_heads.Goals as goal

pub returns : goal.returns
unfolding name_heads
returns c = (omega arith, omega arith)
