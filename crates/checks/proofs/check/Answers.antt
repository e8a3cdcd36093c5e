-- `checks::check` meets its contract: where the pass says yes, what is left is the answer.
use mathlib.Core.Path.{◌∙◌}
use Rattle.checks.proofs.AskedLaws.{passes, refuses}
use Rattle.checks.proofs.CheckedLaws.{says-1}
use Rattle.checks.proofs.RestLaws.{rest_is}
use Rattle.checks.proofs.check.Goals as goal

pub returns-in_err-asked : goal.returns-in_err-asked
returns-in_err-asked c =
    refuses _ c.sizes_ok.ensures c.asked.ensures c.in_err-asked.was c.from_residual.ensures.1 (λ e. says-1 _ e)

pub rest-requires : goal.rest-requires
rest-requires c = record { numbers = (c.passes.ensures c.if-passes.true).numbers }

pub returns-then-passes : goal.returns-then-passes
returns-then-passes c =
    let sizes = passes _ c.sizes_ok.ensures c.asked.ensures c.in_ok-asked.was in
    c.rest.ensures ∙ rest_is _ sizes (c.passes.ensures c.if-passes.true)
