-- `switch_places::chained::case_chains` meets its contract.
use Rattle.switch_places.proofs.LaidLaws.{case_heads, cases-stay}
use Rattle.switch_places.proofs.chained.case_chains.Goals as goal

pub returns : goal.returns
returns c = λ t ok k T l m. c.list_chains.ensures _ t _ _ _ T l m (case_heads ok k T) (cases-stay _ _)
