-- `expr_count::plans::rotates` meets its contract: by whether there are others.
use mathlib.Core.Path.{◌∙◌}
use Rattle.expr_count.proofs.PlanLaws.{rotates-by}
use Rattle.expr_count.proofs.plans.rotates.Goals as goal

pub returns : goal.returns
returns c = c.from.ensures ∙ rotates-by c.args.others
