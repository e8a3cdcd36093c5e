-- `switch_places::read_table` meets its contract: the passes leave the table of an accepted switch.
use native.Mathlib.Omega.{arith}
use Rattle.switch_tables.proofs.Accepted.{few_blocks, few_cases}
use Rattle.switch_places.proofs.ReadLaws.{tables-read}
use Rattle.switch_places.proofs.read_table.Goals as goal

pub returns : goal.returns
returns c ok k =
    let s = c.args.by.now.sheet.now in
    let g = c.guards-c.ensures in
    let first = g.behind (few_blocks s ok k) in
    let x = c.read_ranges.ensures (c.case_heads-r.ensures.fact first (few_cases s ok k)) in
    let a = x.1.1 in
    tables-read s ok k g.guards (c.case_heads-r.ensures.fact_2 (omega arith) first) x.0 x.1.0 a.0 a.1.1
    (c.fill_band_heads.ensures x.0.few a.0.few)
