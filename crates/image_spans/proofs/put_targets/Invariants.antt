-- `image_spans::put_targets` meets its contract. Invariant: the targets of the first j rows stand there.
use mathlib.Core.Path.{◌≡◌}
use lib.ListN.{length}
use Rattle.image_read.specs.Pools.{kind_of}
use Rattle.image_spans.specs.Leaves.{Put}
use Rattle.image_spans.proofs.put_targets.Given as goal

abbrev pub invariant-loop-j : goal.invariant-loop-j
invariant-loop-j l = (length l.t ≡ length l.initial.t) × Put l.image.words.now (kind_of l.fn.pool) l.at l.j l.initial.t l.t
