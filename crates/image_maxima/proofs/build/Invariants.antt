-- `image_maxima::build` meets its contract. Invariant: the nodes from k on are built.
use Prim.Native.Nat.{◌/◌}
use lib.ListN.{length}
use Rattle.image_maxima.proofs.BuildLaws.{From}
use Rattle.image_maxima.proofs.build.Given as goal

abbrev pub invariant-loop-k : goal.invariant-loop-k
invariant-loop-k l = From l.initial.t l.t (length l.initial.t / 2) l.k
