-- `write_front::Source::chain_keys` meets its contract.
use Rattle.write_front.proofs.FrontLaws.{chains-are}
use Rattle.write_front.proofs.Source.chain_keys.Goals as goal

pub returns : goal.returns
returns c = λ m h. chains-are h c.chains_at.ensures c.keys.ensures
