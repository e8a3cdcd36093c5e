-- `expr_slots::ends_with` meets its contract: a name at the end is not passed over.
use mathlib.Core.Bool.{true≢false}
use Rattle.expr_slots.proofs.LengthLaws.{ends-told}
use Rattle.expr_slots.proofs.ends_with.Goals as goal

pub returns-then-m-n : goal.returns-then-m-n
returns-then-m-n c = λ e. absurd (true≢false e)

pub returns : goal.returns
returns c =
    let a = c.args in
    ends-told a.sheet.now a.name.now c.part.ensures c.same_bytes.ensures
