-- `expr_slots::resolve` meets its contract: by bytes, or by lengths first.
use mathlib.Core.Path.{ap, ◌∙◌}
use Rattle.lowering.specs.Slots.{resolve}
use Rattle.expr_slots.specs.Found.{found}
use Rattle.expr_slots.proofs.resolve.Goals as goal

pub returns-then-ends_with : goal.returns-then-ends_with
returns-then-ends_with c =
    let s = c.args.sheet.now in
    c.by_bytes.ensures ∙ ap (λ x. found (resolve s x)) c.text-name.ensures

pub by_length-requires : goal.by_length-requires
by_length-requires c = (c.text-name.ensures, c.ends_with.ensures c.if-ends_with.false)

pub returns : goal.returns
returns c =
    let s = c.args.sheet.now in
    c.by_length.ensures ∙ ap (λ x. found (resolve s x)) c.text-name.ensures
