-- `image_read::Image::step_word` meets its contract.
use Rattle.image_rule.specs.Rules.{step_word}
use Rattle.image_read.proofs.Image.step_word.Goals as goal

pub returns : goal.returns
unfolding step_word
returns c = cc (c.word_of.ensures, c.args.self.now.placed.steps)
