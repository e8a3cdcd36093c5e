-- `scratch_locals::Pass::tell_all` meets its contract: each turn is a law.
use Rattle.std.proofs.Common.{◌≡◌, length}
use Rattle.scratch_locals.specs.Pass.{Telling}
use Rattle.scratch_locals.proofs.Pass.tell_all.Given as goal

abbrev pub invariant-loop-k : goal.invariant-loop-k
invariant-loop-k l =
    (length l.scratch ≡ length l.initial.scratch)
    × (Telling l.self.sheet.now l.self.layout l.n 0 l.initial.scratch → Telling l.self.sheet.now l.self.layout l.n l.k l.scratch)
