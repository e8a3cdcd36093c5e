-- `image_read::Image::chain_word` meets its contract.
use Rattle.lowering.specs.Words.{chain_word}
use Rattle.image_read.proofs.Image.chain_word.Goals as goal

pub returns : goal.returns
unfolding chain_word
returns c = cc (c.word_of.ensures, c.args.self.now.placed.chains)
