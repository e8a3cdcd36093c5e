-- `expr_count::operands::Operands::others` meets its contract: the parts are those of the definition.
use Prim.Native.Nat.{◌-◌}
use mathlib.Core.Path.{ap, ap₂, ◌∙◌}
use Rattle.sheet.specs.Node.{next}
use Rattle.expr_count.specs.Operands.{some_from}
use Rattle.expr_count.proofs.operands.Operands.others.Goals as goal

pub returns : goal.returns
returns c =
    let a = c.args in
    let n-is = c.saturating_sub.ensures ∙ ap (λ n. n - 1) c.count.ensures in
    let from_is = c.next.ensures ∙ ap (next a.sheet.now) c.child.ensures in
    ap₂ some_from n-is from_is
