-- Where the code ends, by the layout beside the counts. The sum does not wrap, since the length is cut off.
use Rattle.std.proofs.Common.{ℕ, ◌+◌, ◌%◌, ◌^◌, ap, refl, arith}
use Rattle.expr_emit.proofs.EndLaws.{ends_at, length-low, told-length}
use Rattle.expr_emit.proofs.ends.end_of.Goals as goal

pub overflow_add-result : goal.overflow_add-result
overflow_add-result c = let low = length-low _ _ c.tally.ensures in omega (arith, c.from-code.ensures)

pub returns : goal.returns
returns c =
    let it = c.args.store.now in
    ends_at _ _ refl
    (λ nodes S. rw (c.from-code.ensures) (ap (λ (n : ℕ). (it.state.code + n) % 2 ^ 32)
    (told-length _ _ _ _ c.tally.ensures (c.told.ensures nodes S))))
