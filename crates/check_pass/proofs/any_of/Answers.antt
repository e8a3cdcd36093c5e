-- `check_pass::any_of` meets its contract.
use Rattle.check_pass.proofs.LimitLaws.{any_none, any_some}
use Rattle.check_pass.proofs.any_of.Goals as goal

pub returns-then-x-eq0 : goal.returns-then-x-eq0
returns-then-x-eq0 c = any_none _ c.if-x-eq0.true

pub returns : goal.returns
returns c = any_some _ c.if-x-eq0.false
