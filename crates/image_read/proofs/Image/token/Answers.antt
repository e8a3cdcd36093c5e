-- `image_read::Image::token` meets its contract.
use Rattle.image_read.specs.Placed.{token}
use Rattle.image_read.proofs.Image.token.Goals as goal

pub returns : goal.returns
unfolding token
returns c = cc (c.word_of.ensures, c.args.self.now.placed.tokens)
