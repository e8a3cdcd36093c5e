-- `scratch_locals::Pass::settle` meets its contract.
use Rattle.std.proofs.Common.{ℕ, ◌+◌, ap}
use Rattle.scratch_locals.proofs.SettleLaws.{settles-other, settles-one}
use Rattle.scratch_locals.proofs.Pass.settle.Goals as goal

pub returns-then-kind-ne-VARIABLE : goal.returns-then-kind-ne-VARIABLE
returns-then-kind-ne-VARIABLE c = settles-other c.kind.ensures c.if-kind-ne-VARIABLE.true

pub returns : goal.returns
returns c =
    settles-one c.kind.ensures c.if-kind-ne-VARIABLE.false (ap (λ (p : ℕ). p + c.args.j) c.chains_at.ensures) c.get-r.ensures
    (ap (λ (p : ℕ). p + c.get-r.result) c.tokens_at.ensures)
    c.get-a.ensures c.slot_place.ensures c.put.ensures
