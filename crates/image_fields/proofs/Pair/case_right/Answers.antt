-- `image_fields::Pair::case_right` meets its contract.
use Rattle.image_fields.proofs.RecordLaws.{case-right}
use Rattle.image_fields.proofs.Pair.case_right.Goals as goal

pub returns : goal.returns
returns c = let p = c.args.self.now in case-right p.image.words.now c.args.i p.image.sized.places p.image.sized.consts c.case_word.ensures c.case_word-2.ensures
