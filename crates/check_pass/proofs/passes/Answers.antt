-- `check_pass::passes` meets its contract.
use mathlib.Core.Path.{sym, ◌∙◌}
use mathlib.Core.Bool.{false≢true}
use Rattle.check_pass.proofs.FineLaws.{fine_of}
use Rattle.check_pass.proofs.passes.Goals as goal

pub returns-then-root_ok : goal.returns-then-root_ok
returns-then-root_ok c h = fine_of _ (sym c.root_ok.ensures ∙ c.if-root_ok.true) (c.pass.ensures h)

pub returns : goal.returns
returns c h = absurd (false≢true h)
