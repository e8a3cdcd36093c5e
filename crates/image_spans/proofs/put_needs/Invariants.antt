-- `image_spans::put_needs` meets its contract. Invariant: the needs of the first j steps stand there.
use mathlib.Core.Path.{◌≡◌}
use lib.ListN.{length}
use Rattle.image_spans.specs.Needs.{NeedsIn}
use Rattle.image_spans.proofs.put_needs.Given as goal

abbrev pub invariant-loop-j : goal.invariant-loop-j
invariant-loop-j l = (length l.t ≡ length l.initial.t) × NeedsIn l.image.words.now l.t l.j
