-- `scratch::Layout::memos_at` meets its contract.
use native.Mathlib.Omega.{arith}
use Rattle.scratch.specs.Places.{memos_from}
use Rattle.scratch.proofs.Layout.memos_at.Goals as goal

pub returns : goal.returns
unfolding memos_from
returns c = omega arith
