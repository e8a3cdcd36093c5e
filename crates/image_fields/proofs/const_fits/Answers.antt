-- `image_fields::const_fits` meets its contract: the test is the definition's.
use Rattle.image_fields.specs.Fields.{const_fits}
use Rattle.image_fields.proofs.const_fits.Goals as goal

pub returns : goal.returns
unfolding const_fits
returns c = cc
