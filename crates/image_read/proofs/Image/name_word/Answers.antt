-- `image_read::Image::name_word` meets its contract.
use Rattle.image_read.specs.Placed.{name_word}
use Rattle.image_read.proofs.Image.name_word.Goals as goal

pub returns : goal.returns
unfolding name_word
returns c = cc (c.word_of.ensures, c.args.self.now.placed.names)
