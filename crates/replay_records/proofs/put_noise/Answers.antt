-- `replay_records::put_noise` meets its contract. Invariant: the first i words are noise.
use mathlib.Core.Path.{refl, ◌∙◌}
use native.Mathlib.Omega.{arith}
use lib.ListN.{length-set}
use Rattle.replay_records.proofs.LeftLaws.{noisy-more}
use Rattle.replay_records.proofs.put_noise.Goals as goal

pub loop-i-init : goal.loop-i-init
loop-i-init c = (refl, λ k h. absurd (omega arith))

pub loop-i-preserved : goal.loop-i-preserved
loop-i-preserved c =
    let v = c.noise.result in (
      length-set c.loop-i.buf c.loop-i.i v ∙ c.loop-i.invariant.0,
      noisy-more c.loop-i.buf c.loop-i.i v (omega (arith, c.loop-i.invariant.0)) c.loop-i.invariant.1 c.noise.ensures,
    )
