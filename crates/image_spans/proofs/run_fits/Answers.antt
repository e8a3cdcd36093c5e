-- `image_spans::run_fits` meets its contract.
use mathlib.Core.Path.{◌∙◌}
use Rattle.image_spans.proofs.ChainLaws.{run-leaves}
use Rattle.image_spans.proofs.run_fits.Goals as goal

pub returns : goal.returns
returns c = λ T h. c.all_at_most.ensures T h ∙ run-leaves _ _ _ _ _
