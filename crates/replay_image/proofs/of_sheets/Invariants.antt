-- `replay_image::of_sheets` is safe and ends: each sheet adds fewer than 2^32 records.
use Rattle.std.proofs.Common.{◌*◌, ◌≤◌}
use Rattle.replay_image.proofs.of_sheets.Given as goal

abbrev pub invariant-loop : goal.invariant-loop
invariant-loop g l = (l.same ≤ 4294967295 * l.counter) × (l.most ≤ 4294967295 * l.counter)
