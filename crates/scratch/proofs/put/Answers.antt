-- `scratch::put` meets its contract: past the end nothing is written.
use mathlib.Core.Path.{sym}
use lib.Seq.{set_out}
use Rattle.scratch.proofs.put.Goals as goal

pub returns-else-i-scratch : goal.returns-else-i-scratch
returns-else-i-scratch c = sym (set_out _ _ _ c.if-i-scratch.false)
