-- `image_fields::Pair::name_right` meets its contract.
use Rattle.image_fields.proofs.RecordLaws.{name-right}
use Rattle.image_fields.proofs.Pair.name_right.Goals as goal

pub returns : goal.returns
returns c =
    let p = c.args.self.now in
    name-right p.sheet.now p.image.words.now c.args.i p.texted c.name_word.ensures c.name_word-2.ensures c.name_word-3.ensures
