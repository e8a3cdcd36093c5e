-- `check_texts::Stretch::due_ok` meets its contract: a text that is not due, one that is known to be right, and one
-- that is read. Assumes nothing.
use native.Mathlib.Omega.{arith}
use Rattle.check_texts.proofs.TextsLaws.{due-early, due-late, due-known, due-read}
use Rattle.check_texts.proofs.Stretch.due_ok.Goals as goal

pub returns-then-start-self : goal.returns-then-start-self
returns-then-start-self c = due-early c.start-start.ensures (omega arith)

pub returns-then-self-start : goal.returns-then-self-start
returns-then-self-start c = due-late c.start-start.ensures (omega arith)

pub returns-then-known_ok : goal.returns-then-known_ok
returns-then-known_ok c = due-known (c.known_ok.ensures c.if-known_ok.true)

pub returns : goal.returns
returns c = due-read c.read_ok.ensures
