-- `check_texts::far_end` meets its contract: no character stands at the end. Assumes nothing.
use native.Mathlib.Omega.{arith}
use Rattle.check_texts.proofs.MarkLaws.{run-here}
use Rattle.check_texts.proofs.far_end.Goals as goal

pub returns : goal.returns
returns c = run-here _ _ (omega arith)
