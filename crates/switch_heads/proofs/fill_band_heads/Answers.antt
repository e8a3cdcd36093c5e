-- `switch_heads::fill_band_heads` meets its contract. The invariant is `BandFill`: heads and numbers of the bands passed.
use native.Mathlib.Omega.{arith}
use Rattle.switch_heads.proofs.BandLaws.{bands-start, bands-step, bands-end}
use Rattle.switch_heads.proofs.fill_band_heads.Goals as goal

pub loop-i-init : goal.loop-i-init
loop-i-init c = bands-start _ _ _ c.at.ensures c.min-n.ensures c.args.table.now.whole

pub loop-i-preserved : goal.loop-i-preserved
loop-i-preserved c =
    let put = c.numbered-heads.ensures in
    bands-step _ _ _ _ _ c.loop-i.invariant c.loop-i-test.true _ c.at-p.ensures _ _ (omega arith) put.upper_bound put.number

pub returns : goal.returns
returns c =
    λ spans bands.
    bands-end _ _ _ _ _ c.loop-i.invariant c.loop-i-test.false _ c.put.ensures (record { few_spans = spans; few_bands = bands })
