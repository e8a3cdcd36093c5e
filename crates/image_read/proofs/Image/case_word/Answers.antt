-- `image_read::Image::case_word` meets its contract.
use Rattle.lowering.specs.Words.{case_word}
use Rattle.image_read.proofs.Image.case_word.Goals as goal

pub returns : goal.returns
unfolding case_word
returns c = cc (c.word_of.ensures, c.args.self.now.placed.cases)
