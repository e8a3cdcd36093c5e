-- `write_rows::case_rows` meets its contract. Invariant: the first i rows are there.
use Rattle.write_rows.proofs.Filled.{Filled}
use Rattle.write_rows.specs.TableRows.{case_words_in}
use Rattle.write_rows.proofs.case_rows.Given as goal

abbrev pub invariant-loop-i : goal.invariant-loop-i
invariant-loop-i l = Filled (case_words_in l.flat) 2 l.n l.initial.out l.out l.i
