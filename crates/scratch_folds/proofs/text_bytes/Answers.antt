-- `scratch_folds::text_bytes` meets its contract.
use Rattle.scratch_folds.specs.Sums.{summed_bytes}
use Rattle.scratch_folds.proofs.text_bytes.Goals as goal

pub returns : goal.returns
unfolding summed_bytes
returns c = let at = c.bytes_at.ensures.0 in cc
