-- `write_rows::range_rows` meets its contract. Invariant: the first i rows are there.
use Rattle.write_rows.proofs.Filled.{Filled}
use Rattle.write_rows.specs.TableRows.{range_words_in}
use Rattle.write_rows.proofs.range_rows.Given as goal

abbrev pub invariant-loop-i : goal.invariant-loop-i
invariant-loop-i l = Filled (range_words_in l.flat) 6 l.n l.initial.out l.out l.i
