-- `check_pass::call_ok` meets its contract.
use mathlib.Core.Path.{sym, ◌∙◌}
use mathlib.Core.Bool.{true≢false}
use Rattle.check_pass.proofs.WordLaws.{not-false}
use Rattle.check_pass.proofs.call_ok.Goals as goal

pub returns-then-k-m : goal.returns-then-k-m
returns-then-k-m c h e = not-false c.named_ok.ensures h

pub returns : goal.returns
returns c h e = absurd (true≢false (sym e ∙ c.if-k-m.false))
