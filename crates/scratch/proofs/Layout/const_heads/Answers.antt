-- `scratch::Layout::const_heads` meets its contract.
use native.Mathlib.Omega.{arith}
use Rattle.scratch.specs.Places.{const_heads}
use Rattle.scratch.proofs.Layout.const_heads.Goals as goal

pub returns : goal.returns
unfolding const_heads
returns c = (omega arith, omega arith)
