-- `scratch_index::seek` meets its contract: each step of the loop is a law over plain variables.
use Rattle.std.proofs.Common.{ℕ, ◌<◌}
use Rattle.scratch_index.proofs.LookupLaws.{Seeking}
use Rattle.scratch_index.proofs.seek.Given as goal

abbrev pub invariant-loop-c : goal.invariant-loop-c
invariant-loop-c g l =
    (l.c < 4294967296)
    × ((hash : ℕ → ℕ) (n : ℕ) → g.W.Wanted.told l.wanted → Seeking (g.W.Wanted.same l.wanted) hash g.W.Wanted.slot l.ix n l.h l.scratch l.c)

abbrev pub decreases-loop-c : goal.decreases-loop-c
decreases-loop-c g l = l.c
