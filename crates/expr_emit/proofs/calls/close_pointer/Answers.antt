-- CallFnPtr.
use Rattle.std.proofs.Common.{ℕ, ◌-◌, ap, ◌∙◌}
use Rattle.expr_emit.proofs.CallDoes.{close-pointer-does}
use Rattle.expr_emit.proofs.calls.close_pointer.Goals as goal

pub returns-clause-does : goal.returns-clause-does
returns-clause-does c =
    λ l.
    let others = c.saturating_sub.ensures ∙ ap (λ (n : ℕ). n - 1) c.count.ensures in
    close-pointer-does _ _ _ _ others c.field_b.ensures c.position.ensures (c.emit.ensures.does l _ tt)
