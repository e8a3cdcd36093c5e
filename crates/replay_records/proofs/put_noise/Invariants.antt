-- `replay_records::put_noise` meets its contract. Invariant: the first i words are noise.
use mathlib.Core.Path.{◌≡◌}
use lib.ListN.{length}
use Rattle.replay_records.specs.Left.{Noisy}
use Rattle.replay_records.proofs.put_noise.Given as goal

abbrev pub invariant-loop-i : goal.invariant-loop-i
invariant-loop-i l = (length l.buf ≡ length l.initial.buf) × Noisy l.i l.buf
