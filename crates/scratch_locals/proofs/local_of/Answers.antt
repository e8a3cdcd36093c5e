-- `scratch_locals::local_of` meets its contract.
use Rattle.scratch_locals.proofs.SettleLaws.{slot-told}
use Rattle.scratch_locals.proofs.local_of.Goals as goal

pub returns : goal.returns
returns c =
    slot-told c.local_count.ensures c.if-local_count-le-FEW.false c.kind.ensures c.if-kind-ne-VARIABLE.false c.if-layout-v.false
    c.slot_place.ensures c.get.ensures c.found_by.ensures
