-- `write_front::Source::write` meets its contract.
use Rattle.write_front.proofs.PutsLaws.{puts-start}
use Rattle.write_front.proofs.Source.write.Goals as goal

pub returns : goal.returns
returns c = λ l m h f. puts-start _ (c.put-e.ensures l m h) f
