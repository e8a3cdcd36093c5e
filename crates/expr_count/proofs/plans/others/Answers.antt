-- `expr_count::plans::others` meets its contract: the parts are those of the definition.
use mathlib.Core.Path.{ap, ◌∙◌}
use Rattle.expr_count.specs.Plan.{parts, other_args}
use Rattle.expr_count.proofs.plans.others.Goals as goal

pub returns : goal.returns
unfolding other_args
returns c =
    c.parts.ensures ∙ ap (λ o. parts 0 o c.args.more) c.others.ensures
