-- `image_fields::Pair::range_right` meets its contract.
use Rattle.image_fields.proofs.RecordLaws.{range-right}
use Rattle.image_fields.proofs.Pair.range_right.Goals as goal

pub returns : goal.returns
returns c = let p = c.args.self.now in range-right p.image.words.now c.args.i p.image.sized.places c.range_word.ensures c.range_word-2.ensures
