-- `replay_records::agreeing` meets its contract: what the calls so far answered.
use Rattle.replay_records.specs.Agreed.{Agreed}
use Rattle.replay_records.proofs.agreeing.Given as goal

abbrev pub invariant-loop : goal.invariant-loop
invariant-loop g l = Agreed (goal.F-post g l.compare) l.initial.reader l.counter l.same l.reader
