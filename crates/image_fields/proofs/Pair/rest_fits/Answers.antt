-- `image_fields::Pair::rest_fits` meets its contract.
use Rattle.image_fields.proofs.FitLaws.{rest-call, rest-ref, rest-ptr, rest-else}
use Rattle.image_fields.proofs.Pair.rest_fits.Goals as goal

pub returns-then-kind-eq-CALL : goal.returns-then-kind-eq-CALL
returns-then-kind-eq-CALL c = rest-call _ _ _ _ _ c.if-kind-eq-CALL.true

pub returns-then-kind-eq-CALL_REF : goal.returns-then-kind-eq-CALL_REF
returns-then-kind-eq-CALL_REF c = rest-ref _ _ _ _ _ c.if-kind-eq-CALL.false c.if-kind-eq-CALL_REF.true c.ref_fits.ensures

pub returns-then-kind-eq-CALL_FN_PTR : goal.returns-then-kind-eq-CALL_FN_PTR
returns-then-kind-eq-CALL_FN_PTR c = rest-ptr _ _ _ _ _ c.if-kind-eq-CALL.false c.if-kind-eq-CALL_REF.false c.if-kind-eq-CALL_FN_PTR.true

pub returns : goal.returns
returns c = rest-else _ _ _ _ _ c.if-kind-eq-CALL.false c.if-kind-eq-CALL_REF.false c.if-kind-eq-CALL_FN_PTR.false
