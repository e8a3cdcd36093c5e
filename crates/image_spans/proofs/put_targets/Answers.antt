-- `image_spans::put_targets` meets its contract. Invariant: the targets of the first j rows stand there.
use mathlib.Core.Path.{refl}
use native.Mathlib.Omega.{arith}
use lib.ListN.{length-set}
use Rattle.image_spans.proofs.PutLaws.{put-none, put-more}
use Rattle.image_spans.proofs.put_targets.Goals as goal

pub loop-j-init : goal.loop-j-init
loop-j-init c = (refl, put-none _ _ _ _)

pub loop-j-preserved : goal.loop-j-preserved
loop-j-preserved c =
    let loop = c.loop-j in (
      simp length-set loop.invariant.0,
      put-more (omega arith) c.target_at.ensures loop.invariant.1,
    )
