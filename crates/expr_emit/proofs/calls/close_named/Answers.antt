-- LoadNamed, Rotate, CallRef.
use Rattle.std.proofs.Common.{ℕ, ◌-◌, ap, ◌∙◌}
use Rattle.sheet.specs.Node.{position}
use Rattle.expr_emit.proofs.CallDoes.{close-named-does}
use Rattle.expr_emit.proofs.calls.close_named.Goals as goal

pub returns-clause-does : goal.returns-clause-does
returns-clause-does c =
    λ l.
    let s = c.args.sheet.now in
    let others = c.saturating_sub.ensures ∙ ap (λ (n : ℕ). n - 1) c.count.ensures in
    let at-pos = c.position.ensures ∙ ap (position s) c.child.ensures in
    λ p n v. close-named-does _ _ _ _ others at-pos (c.emit.ensures.does l _ tt) (c.rotate.ensures.does l _)
    (c.call_ref.ensures.does l p n v)
