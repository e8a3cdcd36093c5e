-- `scratch_index::index_hash` meets its contract.
use Rattle.std.proofs.Common.{ap, ◌∙◌, ap₂}
use Rattle.sheet.specs.Start.{start_of}
use Rattle.scratch_folds.specs.Hash.{step}
use Rattle.scratch_index.specs.Chains.{index_hash}
use Rattle.scratch_index.proofs.index_hash.Goals as goal

pub returns : goal.returns
unfolding index_hash
returns c =
    let s = c.args.sheet.now in
    λ e. c.more-3.ensures
    ∙ ap₂ step (c.more-2.ensures ∙ ap₂ step c.more.ensures c.position.ensures)
    (c.start_of.ensures ∙ ap (start_of s) e)
