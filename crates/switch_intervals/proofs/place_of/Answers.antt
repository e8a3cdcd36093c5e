-- `switch_intervals::place_of` meets its contract. The invariant is `Finding`: the place is from lo to hi. The measure is their distance.
use mathlib.Core.Path.{◌∙◌}
use native.Mathlib.Omega.{arith}
use Rattle.switch_split.specs.Held.{excesses}
use Rattle.switch_intervals.proofs.SearchLaws.{finding-start, finding-end, finding-right, finding-left, read_fits}
use Rattle.switch_intervals.proofs.SearchLaws.{place_read}
use Rattle.switch_intervals.proofs.place_of.Goals as goal

pub loop-lo-init : goal.loop-lo-init
loop-lo-init c = finding-start _ _

pub bounds-cuts-mid : goal.bounds-cuts-mid
bounds-cuts-mid c = omega (arith, c.loop-lo.invariant.within)

pub loop-lo-preserved-then-cuts-mid : goal.loop-lo-preserved-then-cuts-mid
loop-lo-preserved-then-cuts-mid c =
    finding-right c.args.cuts.now _ (read_fits c.args.v c.ranges.v) _ _ _
    c.loop-lo.invariant (omega arith) (omega arith) (omega arith) c.if-cuts-mid.true

pub loop-lo-preserved : goal.loop-lo-preserved
loop-lo-preserved c =
    finding-left c.args.cuts.now _ (read_fits c.args.v c.ranges.v) _ _ _
    c.loop-lo.invariant (omega arith) (omega arith) (omega arith) c.if-cuts-mid.false

pub returns : goal.returns
returns c =
    let cuts = c.args.cuts.now in
    let end = finding-end cuts _ _ _ c.loop-lo.invariant c.loop-lo-test.false in
    record { upper_bound = end.0; value = λ st. end.1 st ∙ place_read (excesses cuts) c.args.v c.ranges.v }
