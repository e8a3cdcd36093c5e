-- `image_fields::Pair::token_right` meets its contract.
use Rattle.image_fields.proofs.RecordLaws.{token-right}
use Rattle.image_fields.proofs.Pair.token_right.Goals as goal

pub returns : goal.returns
returns c = let p = c.args.self.now in token-right p.image.words.now c.args.i c.token-token.ensures
