-- `write_rows::target_of` meets its contract: the cells of the list's number, and one answer for each exit.
use mathlib.Core.Path.{◌∙◌}
use Rattle.write_rows.proofs.RowLaws.{target_is}
use Rattle.write_rows.proofs.target_of.Goals as goal

pub returns-in-Chain : goal.returns-in-Chain
returns-in-Chain c = c.get-in-Chain.ensures ∙ target_is _ _ _ _ _ _ _ _ c.get-q.ensures c.get.ensures c.in-Chain.ensures

pub returns-in-Fallback : goal.returns-in-Fallback
returns-in-Fallback c = c.get-in-Fallback.ensures ∙ target_is _ _ _ _ _ _ _ _ c.get-q.ensures c.get.ensures c.in-Fallback.ensures

pub returns-in-Body : goal.returns-in-Body
returns-in-Body c = c.get-in-Body.ensures ∙ target_is _ _ _ _ _ _ _ _ c.get-q.ensures c.get.ensures c.in-Body.ensures
