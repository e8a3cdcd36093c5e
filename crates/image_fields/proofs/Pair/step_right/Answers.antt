-- `image_fields::Pair::step_right` meets its contract.
use Rattle.image_fields.proofs.RecordLaws.{step-right}
use Rattle.image_fields.proofs.Pair.step_right.Goals as goal

pub returns : goal.returns
returns c = let p = c.args.self.now in step-right p.image.words.now c.args.i c.step_fits.ensures c.of.ensures p.image.sized.names c.step_word.ensures c.step_word-2.ensures c.step_word-3.ensures c.step_word-4.ensures c.step_word-5.ensures c.step_word-6.ensures
