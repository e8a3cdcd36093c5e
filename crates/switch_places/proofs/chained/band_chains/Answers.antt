-- `switch_places::chained::band_chains` meets its contract.
use Rattle.switch_places.proofs.LaidLaws.{band_heads, pieces-stay}
use Rattle.switch_places.proofs.chained.band_chains.Goals as goal

pub returns : goal.returns
returns c = λ s t ok k T l m. c.list_chains.ensures _ t _ _ _ T l m (band_heads ok k T) (pieces-stay ok k T)
