-- `image_depths::chain_takes` meets its contract.
use Rattle.image_depths.proofs.CodeLaws.{takes-read}
use Rattle.image_depths.proofs.chain_takes.Goals as goal

pub returns-clause-value : goal.returns-clause-value
returns-clause-value c =
    takes-read c.args.image.now.words.now c.args.i _ _ _ _ c.taken.ensures.value c.of.ensures c.chain_word.ensures c.chain_word-2.ensures
