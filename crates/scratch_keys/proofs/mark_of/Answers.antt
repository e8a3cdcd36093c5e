-- `scratch_keys::mark_of` meets its contract.
use Rattle.scratch_keys.proofs.KeyLaws.{mark-told}
use Rattle.scratch_keys.proofs.mark_of.Goals as goal

pub returns : goal.returns
returns c = mark-told c.args.sheet.now c.args.k c.is_marked.ensures c.from.ensures
