-- `image_fields::run_fits` meets its contract: the test is the definition's.
use mathlib.Core.Path.{refl}
use Rattle.image_fields.specs.Fields.{run_fits}
use Rattle.image_fields.proofs.run_fits.Goals as goal

pub returns : goal.returns
unfolding run_fits
returns c = refl
