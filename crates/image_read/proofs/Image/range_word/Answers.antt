-- `image_read::Image::range_word` meets its contract.
use Rattle.lowering.specs.Words.{range_word}
use Rattle.image_read.proofs.Image.range_word.Goals as goal

pub returns : goal.returns
unfolding range_word
returns c = cc (c.word_of.ensures, c.args.self.now.placed.ranges)
