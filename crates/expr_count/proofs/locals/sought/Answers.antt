-- `expr_count::locals::sought` meets its contract: by what the search among the locals answers.
use mathlib.Core.Path.{ap, ◌∙◌}
use Rattle.std.specs.Prelude.{is_some}
use Rattle.sheet.specs.Text.{text}
use Rattle.lowering.specs.Slots.{resolve}
use Rattle.expr_slots.specs.Found.{found}
use Rattle.expr_count.proofs.LocalLaws.{local_is}
use Rattle.expr_count.proofs.locals.sought.Goals as goal

pub returns : goal.returns
returns c =
    let a = c.args in
    let s = a.sheet.now in
    c.is_some.ensures ∙ ap is_some (c.resolve.ensures ∙ ap (λ t. found (resolve s (text s t))) c.field_a.ensures) ∙ local_is s a.v
