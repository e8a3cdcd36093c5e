-- `image_read::Image::const_word` meets its contract.
use Rattle.lowering.specs.Words.{const_word}
use Rattle.image_read.proofs.Image.const_word.Goals as goal

pub returns : goal.returns
unfolding const_word
returns c = cc (c.word_of.ensures, c.args.self.now.placed.consts)
