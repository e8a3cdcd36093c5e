-- `image_fields::Pair::ref_fits` meets its contract.
use Rattle.image_fields.proofs.FitLaws.{ref-none, ref-some}
use Rattle.image_fields.proofs.Pair.ref_fits.Goals as goal

pub returns-then-receiver-gt2 : goal.returns-then-receiver-gt2
returns-then-receiver-gt2 c = ref-none _ _ _ c.if-receiver-gt2.true

pub returns : goal.returns
returns c = rw c.from.ensures (ref-some _ _ _ c.if-receiver-gt2.false)
