-- `switch_emit::switch` meets its contract: its parts, one after another.
use Rattle.switch_tables.specs.Planned.{entries}
use Rattle.switch_emit.proofs.SwitchDoes.{default_is, switch-does}
use Rattle.switch_tables.proofs.KindLaws.{coded-of}
use Rattle.std.proofs.Common.{◌∙◌}
use Rattle.switch_emit.proofs.switch.Goals as goal

pub returns-clause-does : goal.returns-clause-does
returns-clause-does c =
    let a = c.args in
    λ l C T P.
    switch-does a.flat.now (entries a.sheet.now) _ _ (c.is_some.ensures ∙ default_is _)
    (coded-of _ _ c.checked_sub-def.ensures ∙ c.field_c.ensures)
    (c.subject.ensures.does l C) (c.chains.ensures.does l C T P) (c.bodies.ensures.does l C T)
    (c.missing.ensures.does l _) (c.close.ensures.does l _)
