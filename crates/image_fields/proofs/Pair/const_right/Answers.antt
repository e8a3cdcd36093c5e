-- `image_fields::Pair::const_right` meets its contract.
use Rattle.image_fields.proofs.RecordLaws.{const-right}
use Rattle.image_fields.proofs.Pair.const_right.Goals as goal

pub returns : goal.returns
returns c = let p = c.args.self.now in const-right p.sheet.now p.image.words.now c.args.i c.const_fits.ensures p.texted c.const_word.ensures c.const_word-2.ensures c.const_word-3.ensures
