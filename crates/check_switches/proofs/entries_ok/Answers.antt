-- `check_switches::entries_ok` meets its contract: one law for each way.
use Rattle.check_switches.proofs.SwitchLaws.{entries-other, entries-many}
use mathlib.Core.Path.{sym, ◌∙◌}
use Rattle.check_switches.proofs.ReadLaws.{entries-read}
use Rattle.check_switches.proofs.entries_ok.Goals as goal

pub returns-then-counts_ok : goal.returns-then-counts_ok
returns-then-counts_ok c =
    let s = c.args.sheet.now in
    let is-switch = sym c.is_switch.ensures ∙ c.if-is_switch.true in
    let few = sym c.counts_ok.ensures ∙ c.if-counts_ok.true in
    entries-read s is-switch few c.field_b.ensures c.first_case.ensures c.all_refs_ok.ensures

pub returns-then-is_switch : goal.returns-then-is_switch
returns-then-is_switch c =
    let s = c.args.sheet.now in
    let is-switch = sym c.is_switch.ensures ∙ c.if-is_switch.true in
    sym (entries-many s is-switch (sym c.counts_ok.ensures ∙ c.if-counts_ok.false))

pub returns : goal.returns
returns c =
    let s = c.args.sheet.now in
    sym (entries-other s (sym c.is_switch.ensures ∙ c.if-is_switch.false))
