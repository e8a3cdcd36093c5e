-- `switch_intervals::RangeNodes::put_spans` meets its contract. The invariant is `Spanning`: the ranges passed
-- stand in the table, and are marked.
use Rattle.sheet.specs.Rest.{rest}
use Rattle.switch_split.specs.Held.{excesses}
use Rattle.switch_intervals.proofs.SpanLaws.{Spanning}
use Rattle.sheet.proofs.WalkedLaws.{Walked}
use Rattle.switch_intervals.proofs.RangeNodes.put_spans.Given as goal

abbrev pub invariant-loop-i : goal.invariant-loop-i
invariant-loop-i l =
    let it = l.self in
    let i = l.i-iterator.count in
    Spanning it.sheet.now (excesses l.cuts.at.now) l.initial.table.cells l.initial.marks it.first it.count l.table.cells l.marks i
    × Walked it.sheet.now it.first it.count i (rest l.i-iterator.iter)
