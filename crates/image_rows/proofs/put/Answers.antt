-- `image_rows::put` meets its contract.
use mathlib.Core.Path.{sym}
use lib.Seq.{set_out}
use Rattle.image_rows.proofs.put.Goals as goal

pub returns-else-at-out : goal.returns-else-at-out
returns-else-at-out c = let a = c.args in sym (set_out a.out.now a.at a.v c.if-at-out.false)
