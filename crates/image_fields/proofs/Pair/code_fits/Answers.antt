-- `image_fields::Pair::code_fits` meets its contract.
use Rattle.image_fields.proofs.FitLaws.{code-none, code-some}
use Rattle.image_fields.proofs.Pair.code_fits.Goals as goal

pub returns-then-kind-gt24 : goal.returns-then-kind-gt24
returns-then-kind-gt24 c = code-none _ _ _ _ _ _ c.if-kind-gt24.true

pub returns : goal.returns
returns c = rw c.from.ensures (code-some _ _ _ _ _ _ c.if-kind-gt24.false c.rest_fits.ensures)
