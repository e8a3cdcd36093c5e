-- `expr_slots::same_part` meets its contract: where the first bytes differ, so do the names.
use mathlib.Core.Path.{sym, ap, ◌∙◌}
use Rattle.text.specs.Same.{same}
use Rattle.expr_slots.proofs.LengthLaws.{first-differs}
use Rattle.expr_slots.proofs.same_part.Goals as goal

pub returns-then-byte : goal.returns-then-byte
returns-then-byte c =
    let name = c.args.name.now in
    λ h. c.same_bytes.ensures ∙ ap (λ x. same x name) c.part.ensures

pub returns : goal.returns
returns c =
    let a = c.args in
    λ h. sym (first-differs a.sheet.now a.name.now a.at a.len h c.byte.ensures c.byte-2.ensures
    c.if-byte.false)
