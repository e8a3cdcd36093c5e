-- One law for each way.
use Rattle.std.proofs.Common.{ap, ◌∙◌}
use Rattle.sheet.specs.Node.{position}
use Rattle.expr_emit.proofs.CallDoes.{close-make, close-pointer, close-local, close-name, close-this, close-value, close-kept}
use Rattle.expr_emit.proofs.CallDoes.{close-in-local, close-in-named, close-in-this, close-in-value}
use Rattle.expr_emit.proofs.calls.Way.close.Goals as goal

pub returns-in-FnPtr-clause-does : goal.returns-in-FnPtr-clause-does
returns-in-FnPtr-clause-does c =
    λ l.
    let at-pos = c.position.ensures ∙ ap (position c.args.sheet.now) c.child.ensures in
    close-make _ _ _ _ c.in-FnPtr.is at-pos (c.emit.ensures.does l _ tt)

pub returns-in-FnPtrCall-clause-does : goal.returns-in-FnPtrCall-clause-does
returns-in-FnPtrCall-clause-does c =
    λ l.
    close-pointer _ _ _ c.in-FnPtrCall.is (c.close_pointer.ensures.does l)

pub returns-in-Local-clause-does : goal.returns-in-Local-clause-does
returns-in-Local-clause-does c =
    λ l.
    close-local _ _ _ _ c.in-Local.is (c.call_ref.ensures.does l)

pub returns-in-Named-clause-does : goal.returns-in-Named-clause-does
returns-in-Named-clause-does c =
    λ l.
    close-name _ _ _ c.in-Named.is (c.close_named.ensures.does l)

pub returns-in-This-clause-does : goal.returns-in-This-clause-does
returns-in-This-clause-does c =
    λ l.
    close-this _ _ _ c.in-This.is (c.call_ref-in-This.ensures.does l)

pub returns-in-Value-clause-does : goal.returns-in-Value-clause-does
returns-in-Value-clause-does c =
    λ l.
    close-value _ _ _ c.in-Value.is (c.call_end.ensures.does l)

pub returns-in-Eval-clause-does : goal.returns-in-Eval-clause-does
returns-in-Eval-clause-does c =
    λ l.
    close-kept _ _ _ c.in-Eval.is (c.residual.ensures.does l _)

pub returns-in-InLocal-clause-does : goal.returns-in-InLocal-clause-does
returns-in-InLocal-clause-does c =
    λ l.
    close-in-local _ _ _ _ c.in-InLocal.is (c.ref_at.ensures.does l)

pub returns-in-InNamed-clause-does : goal.returns-in-InNamed-clause-does
returns-in-InNamed-clause-does c =
    λ l.
    close-in-named _ _ _ c.in-InNamed.is (c.ref_at-in-InNamed.ensures.does l)

pub returns-in-InThis-clause-does : goal.returns-in-InThis-clause-does
returns-in-InThis-clause-does c =
    λ l.
    close-in-this _ _ _ c.in-InThis.is (c.ref_at-in-InThis.ensures.does l)

pub returns-in-InValue-clause-does : goal.returns-in-InValue-clause-does
returns-in-InValue-clause-does c =
    λ l.
    close-in-value _ _ _ c.in-InValue.is (c.values_at.ensures.does l)
