-- `image_spans::chain_fits` meets its contract.
use Rattle.image_spans.proofs.ChainLaws.{chain_fits}
use Rattle.image_spans.proofs.chain_fits.Goals as goal

pub returns : goal.returns
returns c =
    chain_fits c.args.i _ _ _ _ c.chain_word-first.ensures c.chain_word-count.ensures
    c.chain_word-operands.ensures c.run_fits.ensures
