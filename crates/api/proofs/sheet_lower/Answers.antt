-- `api::sheet_lower` meets its contract: the number and the count of the answer.
use Rattle.api.proofs.GivenLaws.{given}
use Rattle.api.proofs.sheet_lower.Goals as goal

pub returns : goal.returns
returns c =
    given _ _ _ _ _ _ _ _ c.lower-a.ensures c.number.ensures c.unwrap_or.ensures
