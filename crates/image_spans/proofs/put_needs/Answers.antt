-- `image_spans::put_needs` meets its contract. Invariant: the needs of the first j steps stand there.
use native.Mathlib.Omega.{arith}
use lib.ListN.{length-set}
use Rattle.image_spans.proofs.NeedLaws.{step-need, needs-more}
use Rattle.image_spans.proofs.put_needs.Goals as goal

pub loop-j-preserved : goal.loop-j-preserved
loop-j-preserved c =
    let loop = c.loop-j in
    let need =
    step-need _ loop.j _ _ _ _ _ _ c.need.ensures c.of.ensures c.step_word.ensures c.step_word-in-loop-j.ensures c.step_word-in-loop-j-2.ensures
    c.step_word-in-loop-j-3.ensures in (
      simp length-set loop.invariant.0,
      needs-more _ _ c.args.image.now.sized.steps c.loop-j-test.true (omega arith) need loop.invariant.1,
    )
