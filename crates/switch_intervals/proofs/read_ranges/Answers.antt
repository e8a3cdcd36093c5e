-- `switch_intervals::read_ranges` meets its contract: the passes, one after the other.
use Prim.Native.Nat.{ℕ, min, ◌≤◌}
use mathlib.Core.Path.{◌∙◌, ap}
use native.Mathlib.Omega.{arith}
use lib.ListN.{length, take, get_or-replicate}
use borrow.Author.Rules.{rules}
use Rattle.sheet.specs.Limits.{max_entries}
use Rattle.switch_split.proofs.HeldLaws.{lists-slice}
use Rattle.switch_tables.specs.Columns.{max_cuts}
use Rattle.switch_intervals.proofs.RangesLaws.{none-put, all-put}
use Rattle.switch_intervals.proofs.read_ranges.Goals as goal

pub returns-then-count-eq0 : goal.returns-then-count-eq0
returns-then-count-eq0 c =
    let n = c.min-count.ensures ∙ ap (λ (x : ℕ). min x max_entries) c.range_count.ensures in
    none-put _ _ _ _ _ _ n c.put.ensures c.if-count-eq0.true c.put-then-count-eq0.ensures c.args.table.now.whole

pub returns : goal.returns
returns c =
    let n = c.min-count.ensures ∙ ap (λ (x : ℕ). min x max_entries) c.range_count.ensures in
    let points = c.cuts-points.result in
    let few : length (take points.n points.at) ≤ max_cuts = omega (arith, c.cuts-points.ensures.upper_bound) in
    all-put _ _ _ _ _ _ _ _ n c.put.ensures _ _ few (λ read. lists-slice _ _ _ (c.cuts-points.ensures.cuts read)) (search rules) _
    (search rules)
    (c.put_spans.ensures (search rules) (λ j l. get_or-replicate 256 j 0 0 l)) c.put-2.ensures c.put_bands.ensures c.args.table.now.whole
