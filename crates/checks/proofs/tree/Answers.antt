-- `checks::tree` meets its contract: a law for each answer.
use Rattle.checks.proofs.CheckedLaws.{says-0, says-5, says-6, says-7, says-8}
use Rattle.checks.proofs.AskedLaws.{passes, refuses, last}
use Rattle.checks.proofs.tree.Goals as goal

pub returns-in_err-asked : goal.returns-in_err-asked
returns-in_err-asked c =
    refuses _ c.depth_ok.ensures c.asked.ensures c.in_err-asked.was c.from_residual.ensures.1 (λ e. says-5 _ e)

pub returns-in_err-asked-2 : goal.returns-in_err-asked-2
returns-in_err-asked-2 c =
    let depth = passes _ c.depth_ok.ensures c.asked.ensures c.in_ok-asked.was in
    refuses _ c.entries_ok.ensures c.asked-2.ensures c.in_err-asked-2.was c.from_residual-in_err-asked-2.ensures.1 (λ e. says-6 _ depth e)

pub returns-in_err-asked-3 : goal.returns-in_err-asked-3
returns-in_err-asked-3 c =
    let depth = passes _ c.depth_ok.ensures c.asked.ensures c.in_ok-asked.was in
    let entries = passes _ c.entries_ok.ensures c.asked-2.ensures c.in_ok-asked-2.was in
    refuses _ c.cases_ok.ensures c.asked-3.ensures c.in_err-asked-3.was c.from_residual-in_err-asked-3.ensures.1
    (λ e. says-7 _ depth entries e)

pub returns : goal.returns
returns c =
    let depth = passes _ c.depth_ok.ensures c.asked.ensures c.in_ok-asked.was in
    let entries = passes _ c.entries_ok.ensures c.asked-2.ensures c.in_ok-asked-2.was in
    let cases = passes _ c.cases_ok.ensures c.asked-3.ensures c.in_ok-asked-3.was in
    last _ c.supported_ok.ensures c.asked-4.ensures (λ e. says-8 _ depth entries cases e) (λ e. says-0 _ depth entries cases e)
