-- `scratch_locals::Pass::settle_all` meets its contract: each turn is a law.
use Rattle.std.proofs.Common.{◌≡◌, length}
use Rattle.scratch_locals.specs.Pass.{Settling}
use Rattle.scratch_locals.proofs.Pass.settle_all.Given as goal

abbrev pub invariant-loop-j : goal.invariant-loop-j
invariant-loop-j l =
    (length l.scratch ≡ length l.initial.scratch)
    × (Settling l.self.sheet.now l.self.layout 0 l.initial.scratch → Settling l.self.sheet.now l.self.layout l.j l.scratch)
