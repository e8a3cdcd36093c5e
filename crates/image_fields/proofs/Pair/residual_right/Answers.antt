-- `image_fields::Pair::residual_right` meets its contract.
use Rattle.image_fields.proofs.RecordLaws.{residual-right}
use Rattle.image_fields.proofs.Pair.residual_right.Goals as goal

pub returns : goal.returns
returns c = let p = c.args.self.now in residual-right p.sheet.now p.image.words.now c.args.i p.noded c.residual.ensures
