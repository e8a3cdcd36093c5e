-- `switch_heads::fill_band_heads` meets its contract. The invariant is `BandFill`: heads and numbers of the bands passed.
use Rattle.switch_heads.proofs.BandLaws.{BandFill}
use Rattle.switch_heads.proofs.fill_band_heads.Given as goal

abbrev pub invariant-loop-i : goal.invariant-loop-i
invariant-loop-i l = BandFill l.initial.table.cells l.n l.table.cells l.heads l.i
