-- `image_fields::Pair::chain_right` meets its contract.
use Rattle.image_fields.proofs.RecordLaws.{chain-right}
use Rattle.image_fields.proofs.Pair.chain_right.Goals as goal

pub returns : goal.returns
returns c = let p = c.args.self.now in chain-right p.sheet.now p.image.words.now c.args.i p.local p.image.sized.names p.image.sized.steps c.chain_word.ensures
    c.chain_word-x.ensures c.chain_word-y.ensures c.of-kind.ensures c.root_fits-root.ensures c.chain_word-2.ensures c.chain_word-3.ensures
    c.run_fits-run.ensures c.chain_word-4.ensures
