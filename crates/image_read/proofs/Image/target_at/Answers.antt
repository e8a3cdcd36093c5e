-- `image_read::Image::target_at` meets its contract.
use Rattle.image_read.specs.Targets.{target_of}
use Rattle.image_read.proofs.Image.target_at.Goals as goal

pub returns : goal.returns
unfolding target_of
returns c = cc (c.word_of.ensures, c.targets_at.ensures.at, c.apart.ensures.value)
