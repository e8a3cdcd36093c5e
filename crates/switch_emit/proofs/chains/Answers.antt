-- `switch_emit::chains` meets its contract: with no entries in the split, and with some.
use Rattle.switch_tables.specs.Planned.{entries}
use Rattle.switch_emit.proofs.SwitchDoes.{no-split, some-split, chains-none, chains-some}
use Rattle.std.proofs.Common.{sym, ◌∙◌}
use Rattle.switch_emit.proofs.chains.Goals as goal

pub returns-then-get-eq0-clause-does : goal.returns-then-get-eq0-clause-does
returns-then-get-eq0-clause-does c =
    let a = c.args in
    λ l C T P.
    chains-none a.flat.now (entries a.sheet.now) (no-split T (sym c.get.ensures ∙ c.if-get-eq0.true))
    (c.case_arms.ensures.does l C T P)

pub returns-clause-does : goal.returns-clause-does
returns-clause-does c =
    let a = c.args in
    λ l C T P.
    chains-some a.flat.now (entries a.sheet.now)
    (some-split T (λ e. c.if-get-eq0.false (c.get.ensures ∙ e)))
    (c.case_arms-2.ensures.does l C T P) (c.emit.ensures.does l _ tt)
    (c.range_arms.ensures.does l C T)
