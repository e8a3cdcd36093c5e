-- `image_read::Image::residual` meets its contract.
use Rattle.image_read.specs.Placed.{residual}
use Rattle.image_read.proofs.Image.residual.Goals as goal

pub returns : goal.returns
unfolding residual
returns c = cc (c.word_of.ensures, c.args.self.now.placed.residuals)
