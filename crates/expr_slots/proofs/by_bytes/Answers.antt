-- `expr_slots::by_bytes` meets its contract: the locals from the last one on.
use Rattle.std.proofs.Common.{rules}
use borrow.Author.Tests.{tests}
use mathlib.Core.Path.{ap, ◌∙◌}
use Rattle.lowering.specs.Slots.{resolve_below, resolve}
use Rattle.expr_slots.specs.Found.{found}
use Rattle.expr_slots.proofs.LastLaws.{test, found-down, last-found}
use Rattle.expr_slots.proofs.by_bytes.Goals as goal

pub returns : goal.returns
unfolding resolve
returns c =
    let s = c.args.sheet.now in
    let name = c.args.name.now in
    found-down (test s name) _ _ _ _ c.find.ensures.ran c.rev.ensures.source (λ x b q k. search (rules, tests))
    ∙ last-found s name c.local_count.result
    ∙ ap (λ n. found (resolve_below n s name)) c.local_count.ensures
