-- `image_read::Image::table_word` meets its contract.
use Rattle.lowering.specs.Words.{switch_word}
use Rattle.image_read.proofs.Image.table_word.Goals as goal

pub returns : goal.returns
unfolding switch_word
returns c = cc (c.word_of.ensures, c.args.self.now.placed.tables)
