-- `check_switches::cases_ok` meets its contract: one law for each way.
use Rattle.check_switches.proofs.SwitchLaws.{cases_other}
use mathlib.Core.Path.{sym, ◌∙◌}
use Rattle.check_switches.proofs.ReadLaws.{cases-read}
use Rattle.check_switches.proofs.cases_ok.Goals as goal

pub returns-then-is_switch : goal.returns-then-is_switch
returns-then-is_switch c =
    let s = c.args.sheet.now in
    let is-switch = sym c.is_switch.ensures ∙ c.if-is_switch.true in
    cases-read s is-switch c.field_b.ensures c.first_case.ensures c.distinct.ensures

pub returns : goal.returns
returns c =
    let s = c.args.sheet.now in
    sym (cases_other s (sym c.is_switch.ensures ∙ c.if-is_switch.false))
