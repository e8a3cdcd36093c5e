-- `check_pass::settled` meets its contract: a node with a child left stays, and else those around it are closed up to one that has.
use mathlib.Core.Path.{sym, ◌∙◌}
use native.Mathlib.Omega.{arith}
use Rattle.check_pass.specs.Levels.{stay}
use Rattle.check_pass.proofs.PassingLaws.{closed-to, first_inner}
use Rattle.check_pass.proofs.settled.Goals as goal

pub returns-then-at : goal.returns-then-at
returns-then-at c = (stay, c.if-at.true)

pub returns-else-top : goal.returns-else-top
returns-else-top c =
    let a = c.args in
    let found = first_inner a.around.now a.n c.in-Some.d a.at.d (omega arith) c.in-Some.ensures in (
      closed-to a.around.now a.n a.at.top a.at.d _ (sym c.done.ensures ∙ c.if-not-done.false) found.0 found.1,
      omega (arith, c.if-top.false),
    )
