-- `expr_count::links::temporary` meets its contract: by the role.
use mathlib.Core.Path.{ap, ◌∙◌}
use mathlib.Core.Bool.{◌&&◌, not}
use lib.Dec.{eqb}
use mir.Val.{bool_byte}
use Rattle.expr_count.proofs.PlanLaws.{root-lowered}
use Rattle.expr_count.proofs.links.temporary.Goals as goal

pub returns : goal.returns
returns c =
    let a = c.args in
    c.from.ensures
    ∙ ap (λ k. bool_byte (not (eqb k 9) && not (eqb k 10))) c.role-k.ensures
    ∙ root-lowered a.sheet.now a.v
