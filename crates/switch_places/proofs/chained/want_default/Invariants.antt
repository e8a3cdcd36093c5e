-- `switch_places::chained::want_default` meets its contract. The invariant is `Marked`: the blocks passed are marked.
use Rattle.switch_tables.specs.Kinds.{coded}
use Rattle.switch_places.proofs.ChainLaws.{Marked}
use Rattle.switch_places.proofs.chained.want_default.Given as goal

abbrev pub invariant-loop-k : goal.invariant-loop-k
invariant-loop-k l = Marked l.initial.table.cells l.table.cells (coded l.def) l.k
