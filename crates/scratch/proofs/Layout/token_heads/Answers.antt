-- `scratch::Layout::token_heads` meets its contract.
use native.Mathlib.Omega.{arith}
use Rattle.scratch.specs.Places.{token_heads}
use Rattle.scratch.proofs.Layout.token_heads.Goals as goal

pub returns : goal.returns
unfolding token_heads
returns c = (omega arith, omega arith)
