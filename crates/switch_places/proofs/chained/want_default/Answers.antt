-- `switch_places::chained::want_default` meets its contract. The invariant is `Marked`: the blocks passed are marked.
use Rattle.std.proofs.Common.{rules}
use mathlib.Core.Path.{subst}
use native.Mathlib.Omega.{arith}
use Rattle.switch_tables.specs.Columns.{wanted_at, case_place_at}
use Rattle.switch_tables.proofs.ColumnLaws.{within_none}
use Rattle.switch_places.proofs.ChainLaws.{Marked, marked-on}
use Rattle.switch_places.proofs.chained.want_default.Goals as goal

pub loop-k-init : goal.loop-k-init
loop-k-init c = (λ i l. absurd (omega arith), within_none wanted_at case_place_at _)

pub loop-k-preserved : goal.loop-k-preserved
loop-k-preserved c =
    marked-on _ _ _ _ _ _ c.loop-k.invariant c.loop-k.table.whole (omega (arith, c.loop-k-test.true, c.requires))
    (search rules) c.put.ensures

pub returns : goal.returns
returns c =
    let v = subst (Marked _ _ _) (omega (arith, c.loop-k-test.false)) c.loop-k.invariant in record { wanted = v.0; within = v.1 }
